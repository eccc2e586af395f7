-- By the answer: the bits, or the refusal.
use mathlib.Core.Path.{sym, ap, ◌∙◌, subst}
use native.Mathlib.Omega.{arith}
use Rattle.std.specs.Prelude.{Result}
use Prim.Native.Nat.{ℕ}
use Rattle.records.specs.declared.Refusal.{Refusal}
use Rattle.handover.specs.Refusals.{said, MendNumber}
use Rattle.handover.proofs.Refusals.{mend-few}
use Rattle.handover_c.specs.Packed.{packed_reply, FitsReply, packed_mend, FitsMend}
use Rattle.handover_c.proofs.pack_mend.Goals as goal

pub overflow_mul-result : goal.overflow_mul-result
overflow_mul-result c =
    let h = subst (λ (y : Result ℕ Refusal). FitsReply FitsMend MendNumber (said y)) c.in-Ok.is c.requires in
    record { fits = omega (arith, h) }

pub pack_refusal-requires : goal.pack_refusal-requires
pack_refusal-requires c =
    let h = subst (λ (y : Result ℕ Refusal). FitsReply FitsMend MendNumber (said y)) c.in-Err.is c.requires in
    (mend-few _ h.0, h.1)

pub returns-in-Ok : goal.returns-in-Ok
returns-in-Ok c = ap (λ (y : Result ℕ Refusal). packed_reply packed_mend (said y)) (sym c.in-Ok.is)

pub returns-in-Err : goal.returns-in-Err
returns-in-Err c = c.pack_refusal.ensures ∙ ap (λ (y : Result ℕ Refusal). packed_reply packed_mend (said y)) (sym c.in-Err.is)
