-- By the verdict: its figures fit.
use mathlib.Core.Path.{sym, ap, ◌∙◌, subst}
use native.Mathlib.Omega.{arith}
use Rattle.handover.specs.declared.Verdict.{Verdict}
use Rattle.handover.specs.Front.{outcome_of}
use Rattle.handover_c.specs.Packed.{packed_outcome, FitsOutcome}
use Rattle.handover_c.proofs.pack_verdict.Goals as goal

pub pack_rule-requires : goal.pack_rule-requires
pack_rule-requires c =
    let h = subst (λ (y : Verdict). FitsOutcome (outcome_of y)) c.in-Rule1.is c.requires in
    (omega arith, h.2.0, h.2.1, h.2.2)

pub pack_rule-requires-in-Rule2 : goal.pack_rule-requires-in-Rule2
pack_rule-requires-in-Rule2 c =
    let h = subst (λ (y : Verdict). FitsOutcome (outcome_of y)) c.in-Rule2.is c.requires in
    (omega arith, h.2.0, h.2.1, h.2.2)

pub pack_rule-requires-in-Rule3 : goal.pack_rule-requires-in-Rule3
pack_rule-requires-in-Rule3 c =
    let h = subst (λ (y : Verdict). FitsOutcome (outcome_of y)) c.in-Rule3.is c.requires in
    let p = h.2.0 in
    let q = h.2.1 in
    (omega arith, omega arith, omega arith, h.2.2)

pub pack_rule-requires-in-Rule4 : goal.pack_rule-requires-in-Rule4
pack_rule-requires-in-Rule4 c =
    let h = subst (λ (y : Verdict). FitsOutcome (outcome_of y)) c.in-Rule4.is c.requires in
    (omega arith, h.2.0, h.2.1, h.2.2)

pub pack_rule-requires-in-Rule5 : goal.pack_rule-requires-in-Rule5
pack_rule-requires-in-Rule5 c =
    let h = subst (λ (y : Verdict). FitsOutcome (outcome_of y)) c.in-Rule5.is c.requires in
    (omega arith, h.2.0, h.2.1, h.2.2)

pub returns-in-Held : goal.returns-in-Held
returns-in-Held c = ap (λ (y : Verdict). packed_outcome (outcome_of y)) (sym c.in-Held.is)

pub returns-in-Rule1 : goal.returns-in-Rule1
returns-in-Rule1 c = c.pack_rule.ensures ∙ ap (λ (y : Verdict). packed_outcome (outcome_of y)) (sym c.in-Rule1.is)

pub returns-in-Rule2 : goal.returns-in-Rule2
returns-in-Rule2 c = c.pack_rule-in-Rule2.ensures ∙ ap (λ (y : Verdict). packed_outcome (outcome_of y)) (sym c.in-Rule2.is)

pub returns-in-Rule3 : goal.returns-in-Rule3
returns-in-Rule3 c = c.pack_rule-in-Rule3.ensures ∙ ap (λ (y : Verdict). packed_outcome (outcome_of y)) (sym c.in-Rule3.is)

pub returns-in-Rule4 : goal.returns-in-Rule4
returns-in-Rule4 c = c.pack_rule-in-Rule4.ensures ∙ ap (λ (y : Verdict). packed_outcome (outcome_of y)) (sym c.in-Rule4.is)

pub returns-in-Rule5 : goal.returns-in-Rule5
returns-in-Rule5 c = c.pack_rule-in-Rule5.ensures ∙ ap (λ (y : Verdict). packed_outcome (outcome_of y)) (sym c.in-Rule5.is)
