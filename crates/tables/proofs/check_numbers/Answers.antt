-- Refusal 20, and 21, 30 and 31 where it passes.
use Rattle.records.proofs.Checks.{handed_on, goes_on, passes}
use Rattle.tables.proofs.check_numbers.Goals as goal

pub returns-in_err-bad_balance : goal.returns-in_err-bad_balance
returns-in_err-bad_balance c =
    handed_on _ _ c.bad_balance.result _ c.in_err-bad_balance.field-0.0 c.bad_balance.ensures c.in_err-bad_balance.was c.from_residual.ensures.1

pub returns : goal.returns
returns c = goes_on _ _ (passes c.bad_balance.result c.bad_balance.ensures c.in_ok-bad_balance.was) c.check_claims.ensures
