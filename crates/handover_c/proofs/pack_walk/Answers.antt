-- By the answer: the ending with the counts, or the refusal.
use Prim.Native.Nat.{ℕ}
use mathlib.Core.Path.{sym, ap, ◌∙◌, subst}
use native.Mathlib.Omega.{arith}
use Rattle.std.specs.Prelude.{Result}
use Rattle.records.specs.declared.Refusal.{Refusal}
use Rattle.engine.specs.declared.Walk.{Walk}
use Rattle.handover.specs.Refusals.{said, WalkNumber}
use Rattle.handover.proofs.Refusals.{walk-few}
use Rattle.handover_c.specs.Packed.{packed_reply, counted, FitsReply, packed_walk, FitsWalk}
use Rattle.handover_c.proofs.pack_walk.Goals as goal

pub pack_counts-requires : goal.pack_counts-requires
pack_counts-requires c =
    let h = subst (λ (y : Result Walk Refusal). FitsReply FitsWalk WalkNumber (said y)) c.in-Ok.is c.requires in
    (omega (arith, c.ending_code.ensures.1), h.0)

pub pack_refusal-requires : goal.pack_refusal-requires
pack_refusal-requires c =
    let h = subst (λ (y : Result Walk Refusal). FitsReply FitsWalk WalkNumber (said y)) c.in-Err.is c.requires in
    (walk-few _ h.0, h.1)

pub returns-in-Ok : goal.returns-in-Ok
returns-in-Ok c =
    let w = c.in-Ok.w in
    let code = c.ending_code.ensures.0 in
    let shown = c.in-Ok.is in
    c.pack_counts.ensures ∙ ap (λ (e : ℕ). counted e w.counts.threads w.counts.markers w.steps) code
    ∙ ap (λ (y : Result Walk Refusal). packed_reply packed_walk (said y)) (sym shown)

pub returns-in-Err : goal.returns-in-Err
returns-in-Err c = c.pack_refusal.ensures ∙ ap (λ (y : Result Walk Refusal). packed_reply packed_walk (said y)) (sym c.in-Err.is)
