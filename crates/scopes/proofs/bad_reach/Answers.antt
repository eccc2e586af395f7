-- What the table's marks answer for a node is what the definition asks there.
use Rattle.std.proofs.Common.{refl, ap, ◌∙◌, rules}
use Rattle.laws.specs.Lists.{all}
use Rattle.laws.proofs.Search.{first-same}
use Rattle.marks.specs.Marks.{marked}
use Rattle.model.specs.Formed.{refuse, refusal12, uses}
use Rattle.records.specs.Record.{record_of, node_of}
use Rattle.scopes.proofs.Table.{uses-reached}
use Rattle.scopes.proofs.bad_reach.Goals as goal

pub returns : goal.returns
unfolding refusal12
returns c =
    let a = c.args.array.now in
    let reach = c.fill_scopes.new.reach in
    c.first_failing.ensures (λ i. all (marked reach i) (uses (node_of (record_of a.bytes.now a.trailer i)))) (λ i h before b told. search rules)
    ∙ first-same a.trailer.nodes _ _
    (λ i h. ap (refuse 12 i) (uses-reached a.bytes.now a.trailer a.are_bytes reach c.fill_scopes.ensures i (record_of a.bytes.now a.trailer i) h refl))
