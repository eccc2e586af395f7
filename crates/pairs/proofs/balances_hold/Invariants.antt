-- The loop's flag says that rule 4 holds in the balances passed.
use mathlib.Core.Path.{◌≡◌}
use Rattle.laws.specs.Search.{every}
use Rattle.pairs.specs.Pairs.{gives_to}
use Rattle.pairs.proofs.balances_hold.Given as goal

abbrev pub invariant-loop-k : goal.invariant-loop-k
invariant-loop-k l = l.holds ≡ every l.k (gives_to l.loads l.gives l.j l.r)
