-- The flag of the loop says that node j weighs no more in the balances passed.
use mathlib.Core.Path.{◌≡◌}
use Rattle.laws.specs.Search.{every}
use Rattle.mending.specs.Growing.{no_heavier}
use Rattle.mending.proofs.no_heavier.Given as goal

abbrev pub invariant-loop-k : goal.invariant-loop-k
invariant-loop-k l = l.light ≡ every l.k (no_heavier l.w.loads.now l.i l.j)
