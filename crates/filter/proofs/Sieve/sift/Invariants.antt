-- Nothing is found below node i.
use Rattle.pairs.specs.Pairs.{Screened}
use Rattle.pairs.specs.Weighing.{array_weighed, table_beside}
use Rattle.filter.specs.Sieve.{rule_in}
use Rattle.filter.proofs.Sieve.sift.Given as goal

abbrev pub invariant-loop-i : goal.invariant-loop-i
invariant-loop-i l =
    let s = l.self in
    Screened (rule_in s) (array_weighed s.w.now) (table_beside s.w.now s.rows.now) l.i
