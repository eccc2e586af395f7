-- Each word before w has only bits of the other.
use Rattle.std.proofs.Common.{◌≡◌}
use Rattle.laws.specs.Search.{every}
use Rattle.marks.specs.Marks.{word_inside}
use Rattle.marks.proofs.contained.Given as goal

abbrev pub invariant-loop-w : goal.invariant-loop-w
invariant-loop-w l = l.inside ≡ every l.w (word_inside l.one l.u l.other l.v)
