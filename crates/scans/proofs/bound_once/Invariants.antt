-- The loop's flag says of the names passed that each of them is counted as it should be.
use Rattle.std.proofs.Common.{◌≡◌}
use Rattle.laws.specs.Search.{every}
use Rattle.scans.specs.Pass.{count_fits}
use Rattle.scans.proofs.bound_once.Given as goal

abbrev pub invariant-loop-v : goal.invariant-loop-v
invariant-loop-v l = l.once ≡ every l.v (count_fits l.binders l.n)
