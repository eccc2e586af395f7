use mathlib.Core.Path.{sym, ap, ◌∙◌}
use native.Mathlib.Omega.{arith}
use Rattle.rules.specs.Ruling.{claim_holds}
use Rattle.rules.proofs.Unmet.{all-met, set-unmet}
use Rattle.rules.proofs.fifth_rule.Goals as goal

pub returns-then-not-claim_holds : goal.returns-then-not-claim_holds
returns-then-not-claim_holds c =
    let x = c.args in
    let tested = ap (claim_holds x.w.now.loads.now x.w.now.bounds.now) (sym c.claim.ensures) ∙ sym c.claim_holds.ensures in
    sym (set-unmet _ _ c.requires.rise c.loop-c.c c.first_claim-set_first.result c.first_claim-set_first.ensures
    c.loop-c-test.true c.loop-c.invariant (tested ∙ c.if-not-claim_holds.true))

pub returns : goal.returns
returns c = sym (all-met _ _ (λ e h. c.loop-c.invariant e (omega (arith, h, c.loop-c-test.false))))
