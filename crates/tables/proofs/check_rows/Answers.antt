-- Refusal 18 by its test, then 19, then the rest.
use mathlib.Core.Path.{refl, sym, ◌∙◌}
use borrow.Author.Tests.{eq-eqb, ne_eqb}
use Rattle.records.specs.declared.Reason.TheVariants.{OtherArray}
use Rattle.records.proofs.Checks.{handed_on, goes_on, passes, fails, holds}
use Rattle.tables.proofs.check_rows.Goals as goal

pub returns-then-u32_at-array : goal.returns-then-u32_at-array
returns-then-u32_at-array c = rw c.into.ensures (fails OtherArray _ _ _ refl (ne_eqb _ _ (λ e. c.if-u32_at-array.true (c.u32_at.ensures ∙ e))))

pub returns-in_err-bad_row : goal.returns-in_err-bad_row
returns-in_err-bad_row c =
    holds OtherArray _ _ (eq-eqb _ _ (sym c.u32_at.ensures ∙ c.if-u32_at-array.false))
    (handed_on _ _ c.bad_row.result _ c.in_err-bad_row.field-0.0 c.bad_row.ensures c.in_err-bad_row.was c.from_residual.ensures.1)

pub returns : goal.returns
returns c =
    holds OtherArray _ _ (eq-eqb _ _ (sym c.u32_at.ensures ∙ c.if-u32_at-array.false))
    (goes_on _ _ (passes c.bad_row.result c.bad_row.ensures c.in_ok-bad_row.was) c.check_numbers.ensures)
