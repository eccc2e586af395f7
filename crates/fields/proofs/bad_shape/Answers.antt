-- The closure is the test of one record.
use Rattle.std.proofs.Common.{rules}
use Rattle.records.specs.Record.{record_of}
use Rattle.fields.specs.Fields.{shape_fits, refusal6}
use Rattle.fields.proofs.bad_shape.Goals as goal

pub returns : goal.returns
unfolding refusal6
returns c =
    let a = c.args.array.now in
    c.first_failing.ensures (λ i. shape_fits (record_of a.bytes.now a.trailer i)) (λ i h before b told. search rules)
