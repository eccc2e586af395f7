-- The loop's invariant: the test by marks finds nothing at the names passed. `opened` marks the names that news open.
use mathlib.Core.Path.{◌≡◌}
use Rattle.laws.specs.Search.{clear}
use Rattle.pairs.specs.Weighing.{array_weighed}
use Rattle.rules.specs.Ruling.{rule_below, own_marked}
use Rattle.rules.proofs.first_rule.Given as goal

abbrev pub invariant-loop-o : goal.invariant-loop-o
invariant-loop-o l = rule_below l.o 1 (own_marked (array_weighed l.w) l.rows) ≡ clear
