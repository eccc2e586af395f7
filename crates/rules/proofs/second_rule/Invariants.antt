-- The loop's invariant: the test by the lists finds nothing at the balances passed.
use mathlib.Core.Path.{◌≡◌}
use Rattle.laws.specs.Search.{clear}
use Rattle.rules.specs.Ruling.{rule_below, root_fits}
use Rattle.rules.proofs.second_rule.Given as goal

abbrev pub invariant-loop-k : goal.invariant-loop-k
invariant-loop-k l = rule_below l.k 2 (root_fits l.w.loads.now l.w.bounds.now) ≡ clear
