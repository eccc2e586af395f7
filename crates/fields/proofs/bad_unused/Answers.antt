-- The closure is the test of one record.
use Rattle.std.proofs.Common.{rules}
use Rattle.records.specs.Record.{record_of}
use Rattle.fields.specs.Fields.{unused_zero, refusal7}
use Rattle.fields.proofs.bad_unused.Goals as goal

pub returns : goal.returns
unfolding refusal7
returns c =
    let a = c.args.array.now in
    c.first_failing.ensures (λ i. unused_zero (record_of a.bytes.now a.trailer i)) (λ i h before b told. search rules)
