-- By the answer: the verdict, or the refusal.
use mathlib.Core.Path.{sym, ap, ◌∙◌, subst}
use Rattle.std.specs.Prelude.{Result}
use Rattle.records.specs.declared.Refusal.{Refusal}
use Rattle.handover.specs.declared.Verdict.{Verdict}
use Rattle.handover.specs.Front.{says}
use Rattle.handover.specs.Refusals.{TableNumber}
use Rattle.handover.proofs.Refusals.{table-few}
use Rattle.handover_c.specs.Packed.{packed_reply, packed_outcome, FitsReply, FitsOutcome}
use Rattle.handover_c.proofs.pack_check.Goals as goal

pub pack_verdict-requires : goal.pack_verdict-requires
pack_verdict-requires c = subst (λ (y : Result Verdict Refusal). FitsReply FitsOutcome TableNumber (says y)) c.in-Ok.is c.requires

pub pack_refusal-requires : goal.pack_refusal-requires
pack_refusal-requires c =
    let h = subst (λ (y : Result Verdict Refusal). FitsReply FitsOutcome TableNumber (says y)) c.in-Err.is c.requires in
    (table-few _ h.0, h.1)

pub returns-in-Ok : goal.returns-in-Ok
returns-in-Ok c = c.pack_verdict.ensures ∙ ap (λ (y : Result Verdict Refusal). packed_reply packed_outcome (says y)) (sym c.in-Ok.is)

pub returns-in-Err : goal.returns-in-Err
returns-in-Err c = c.pack_refusal.ensures ∙ ap (λ (y : Result Verdict Refusal). packed_reply packed_outcome (says y)) (sym c.in-Err.is)
