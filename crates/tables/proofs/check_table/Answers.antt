-- Refusal 13 by its test, then the rest over the sizes that were read.
use mathlib.Core.Path.{refl, ap, ◌∙◌}
use Rattle.records.specs.declared.Reason.TheVariants.{TableLength}
use Rattle.records.proofs.Checks.{fails, holds}
use Rattle.tables.specs.Read.{from14}
use Rattle.tables.proofs.Laws.{length-fits}
use Rattle.tables.proofs.check_table.Goals as goal

pub returns-then-not-len : goal.returns-then-not-len
returns-then-not-len c = rw c.into.ensures (fails TableLength _ _ _ refl (c.if-not-len.true))

pub read_sizes-requires : goal.read_sizes-requires
read_sizes-requires c = length-fits c.args.table.now (c.if-not-len.false)

pub check_letters-requires : goal.check_letters-requires
check_letters-requires c =
    let z = c.read_sizes.ensures in
    (ap (λ y. y.nodes) z, ap (λ y. y.names) z, length-fits c.args.table.now (c.if-not-len.false))

pub returns : goal.returns
returns c =
    let x = c.args in
    holds TableLength _ _ (c.if-not-len.false)
    (c.check_letters.ensures ∙ ap (from14 x.array.now.bytes.now x.array.now.trailer x.table.now) c.read_sizes.ensures)
