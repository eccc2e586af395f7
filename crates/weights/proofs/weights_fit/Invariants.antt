-- So far the answer is that of the nodes below i.
use mathlib.Core.Path.{◌≡◌}
use mathlib.Core.Bool.{false, ◌||◌}
use lib.Dec.{eqb}
use lib.ListN.{get_or}
use Rattle.laws.specs.Search.{every}
use Rattle.layout.specs.Table.{weight_at}
use Rattle.weights.proofs.weights_fit.Given as goal

abbrev pub invariant-loop-i : goal.invariant-loop-i
invariant-loop-i l = l.fits ≡ every l.i (λ j. get_or l.agents j false || eqb (weight_at l.table l.at j) 0)
