-- The loop's invariant: `found` says whether the arguments passed are marked.
use Rattle.std.proofs.Common.{◌≡◌, get_or}
use Rattle.laws.specs.Search.{every}
use Rattle.marks.specs.Marks.{marked}
use Rattle.scans.proofs.args_marked.Given as goal

abbrev pub invariant-loop-arg : goal.invariant-loop-arg
invariant-loop-arg l = l.found ≡ every l.arg-index (λ n. marked l.reach l.i (get_or l.args n 0))
