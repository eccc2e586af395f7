-- Two words before w have a bit in common.
use Rattle.std.proofs.Common.{◌≡◌}
use Rattle.laws.specs.Search.{any}
use Rattle.marks.specs.Marks.{words_share}
use Rattle.marks.proofs.shares.Given as goal

abbrev pub invariant-loop-w : goal.invariant-loop-w
invariant-loop-w l = l.found ≡ any l.w (words_share l.one l.u l.other l.v)
