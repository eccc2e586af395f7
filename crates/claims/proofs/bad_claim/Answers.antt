-- The test of each claim is the definition's.
use Rattle.records.specs.ArrayFile.{array_in}
use Rattle.layout.specs.Table.{claim_fits, refusal21}
use Rattle.layout.specs.TableFile.{table_in}
use borrow.Author.Rules.{rules}
use Rattle.claims.proofs.bad_claim.Goals as goal

pub returns : goal.returns
unfolding refusal21
returns c =
    let t = table_in c.args.table.now in
    c.first_failing.ensures (λ i. claim_fits (array_in c.args.array.now) t.balances (t.claim i)) (λ i h before b told. search rules)
