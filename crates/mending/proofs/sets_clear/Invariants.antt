-- The sets passed are clear.
use mathlib.Core.Path.{◌≡◌}
use mathlib.Core.Bool.{true}
use Rattle.laws.specs.Search.{every}
use Rattle.mending.specs.Growing.{set_clear}
use Rattle.mending.proofs.sets_clear.Given as goal

abbrev pub invariant-loop-n : goal.invariant-loop-n
invariant-loop-n l = every l.n (set_clear l.sets.unions l.sets.arities l.rows l.p) ≡ true
