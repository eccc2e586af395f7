-- Refusal 21, then 30 and 31, each where the one before it passes.
use Rattle.records.proofs.Checks.{handed_on, goes_on, passes}
use Rattle.tables.proofs.check_claims.Goals as goal

pub returns-in_err-bad_claim : goal.returns-in_err-bad_claim
returns-in_err-bad_claim c =
    handed_on _ _ c.bad_claim.result _ c.in_err-bad_claim.field-0.0 c.bad_claim.ensures c.in_err-bad_claim.was c.from_residual.ensures.1

pub returns-in_err-bad_set : goal.returns-in_err-bad_set
returns-in_err-bad_set c =
    goes_on _ _ (passes c.bad_claim.result c.bad_claim.ensures c.in_ok-bad_claim.was)
    (handed_on _ _ c.bad_set.result _ c.in_err-bad_set.field-0.0 c.bad_set.ensures c.in_err-bad_set.was c.from_residual-in_err-bad_set.ensures.1)

pub returns : goal.returns
returns c =
    goes_on _ _ (passes c.bad_claim.result c.bad_claim.ensures c.in_ok-bad_claim.was)
    (goes_on _ _ (passes c.bad_set.result c.bad_set.ensures c.in_ok-bad_set.was) c.bad_order.ensures)
