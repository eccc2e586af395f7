-- The loop's flag says that rule 3 holds at the arguments passed.
use mathlib.Core.Path.{◌≡◌}
use Rattle.laws.specs.Search.{every}
use Rattle.pairs.specs.Pairs.{argument_holds}
use Rattle.pairs.proofs.arguments_hold.Given as goal

abbrev pub invariant-loop-n : goal.invariant-loop-n
invariant-loop-n l = l.holds ≡ every l.n (argument_holds l.rows l.p l.q)
