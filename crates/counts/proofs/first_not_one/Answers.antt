-- The test of each entry is the definition's.
use Rattle.std.proofs.Common.{◌||◌, ltb, eqb, get_or, rules}
use Rattle.counts.proofs.first_not_one.Goals as goal

pub returns : goal.returns
returns c =
    let x = c.args in
    c.first_failing.ensures (λ k. ltb k x.from || eqb (get_or x.table.now k 0) 1) (λ i h before b told. search rules)
