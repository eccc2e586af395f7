-- By the answer: the counts, or the refusal.
use mathlib.Core.Path.{sym, ap, ◌∙◌, subst}
use native.Mathlib.Omega.{arith}
use Rattle.std.specs.Prelude.{Result}
use Rattle.records.specs.declared.Refusal.{Refusal}
use Rattle.lent.specs.declared.Counts.{Counts}
use Rattle.handover.specs.Refusals.{said, StepNumber}
use Rattle.handover.proofs.Refusals.{step-few}
use Rattle.handover_c.specs.Packed.{packed_reply, FitsReply, packed_step, FitsStep}
use Rattle.handover_c.proofs.pack_step.Goals as goal

pub pack_counts-requires : goal.pack_counts-requires
pack_counts-requires c =
    let h = subst (λ (y : Result Counts Refusal). FitsReply FitsStep StepNumber (said y)) c.in-Ok.is c.requires in
    (omega arith, h)

pub pack_refusal-requires : goal.pack_refusal-requires
pack_refusal-requires c =
    let h = subst (λ (y : Result Counts Refusal). FitsReply FitsStep StepNumber (said y)) c.in-Err.is c.requires in
    (step-few _ h.0, h.1)

pub returns-in-Ok : goal.returns-in-Ok
returns-in-Ok c = c.pack_counts.ensures ∙ ap (λ (y : Result Counts Refusal). packed_reply packed_step (said y)) (sym c.in-Ok.is)

pub returns-in-Err : goal.returns-in-Err
returns-in-Err c = c.pack_refusal.ensures ∙ ap (λ (y : Result Counts Refusal). packed_reply packed_step (said y)) (sym c.in-Err.is)
