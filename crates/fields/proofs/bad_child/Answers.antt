-- The closure is the test of one record.
use Rattle.std.proofs.Common.{◌∙◌, rules}
use Rattle.records.specs.Record.{record_of}
use Rattle.fields.specs.Fields.{children_fit}
use Rattle.fields.proofs.Laws.{refusal8-by}
use Rattle.fields.proofs.bad_child.Goals as goal

pub returns : goal.returns
returns c =
    let a = c.args.array.now in
    c.first_failing.ensures (λ i. children_fit a.trailer.nodes i (record_of a.bytes.now a.trailer i)) (λ i h before b told. search rules)
    ∙ refusal8-by a.bytes.now a.trailer
