-- The comparison with the set's first is the definition's, where every claim before fits.
use Rattle.layout.specs.Table.{set_fits, refusal30}
use Rattle.layout.specs.TableFile.{table_in}
use borrow.Author.Rules.{rules}
use Rattle.claims.proofs.bad_set.Goals as goal

pub returns : goal.returns
unfolding refusal30
returns c =
    let t = table_in c.args.table.now in
    c.first_failing.ensures (set_fits t) (λ i h before b told. search (rules, before))
