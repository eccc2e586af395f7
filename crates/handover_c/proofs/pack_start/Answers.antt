-- By the answer: the counts, or the refusal.
use mathlib.Core.Path.{sym, ap, ◌∙◌, subst}
use native.Mathlib.Omega.{arith}
use Rattle.std.specs.Prelude.{Result}
use Prim.Native.Nat.{ℕ}
use Rattle.records.specs.declared.Refusal.{Refusal}
use Rattle.handover.specs.Refusals.{said, StartNumber}
use Rattle.handover.proofs.Refusals.{start-few}
use Rattle.handover_c.specs.Packed.{packed_reply, FitsReply, packed_start, FitsStart}
use Rattle.handover_c.proofs.pack_start.Goals as goal

pub pack_counts-requires : goal.pack_counts-requires
pack_counts-requires c =
    let h = subst (λ (y : Result ℕ Refusal). FitsReply FitsStart StartNumber (said y)) c.in-Ok.is c.requires in
    (omega arith, (h.0, omega arith))

pub pack_refusal-requires : goal.pack_refusal-requires
pack_refusal-requires c =
    let h = subst (λ (y : Result ℕ Refusal). FitsReply FitsStart StartNumber (said y)) c.in-Err.is c.requires in
    (start-few _ h.0, h.1)

pub returns-in-Ok : goal.returns-in-Ok
returns-in-Ok c = c.pack_counts.ensures ∙ ap (λ (y : Result ℕ Refusal). packed_reply packed_start (said y)) (sym c.in-Ok.is)

pub returns-in-Err : goal.returns-in-Err
returns-in-Err c = c.pack_refusal.ensures ∙ ap (λ (y : Result ℕ Refusal). packed_reply packed_start (said y)) (sym c.in-Err.is)
