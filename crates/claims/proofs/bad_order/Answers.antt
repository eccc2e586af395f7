-- The comparison with the claim before is the definition's.
use Rattle.layout.specs.Table.{in_order, refusal31}
use Rattle.layout.specs.TableFile.{table_in}
use borrow.Author.Rules.{rules}
use Rattle.claims.proofs.bad_order.Goals as goal

pub returns : goal.returns
unfolding refusal31
returns c =
    let t = table_in c.args.table.now in
    c.first_failing.ensures (in_order t) (λ i h before b told. search rules)
