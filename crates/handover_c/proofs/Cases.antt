-- The rows of the numbers: verdicts, mended bits and walks by computation, the step's own from the front page's row.
use Prim.Native.Nat.{ℕ}
use mathlib.Core.Path.{◌≡◌, refl, ap, ◌∙◌}
use mathlib.Core.List.{map}
use Rattle.handover.specs.Front.{Outcome}
use Rattle.lent.specs.declared.Counts.{Counts}
use Rattle.engine.specs.declared.Walk.{Walk}
use Rattle.handover.specs.Refusals.{Reply}
use Rattle.handover.specs.Engine.{Left}
use Rattle.handover.proofs.Cases.{calls-hold}
use Rattle.handover_c.specs.Packed.{packed_reply, packed_outcome, packed_mend, packed_step, packed_walk}
use Rattle.handover_c.specs.Cases.{verdicts, mends, walks, Stepped}

pub verdicts-hold : map (λ (c : Outcome × ℕ). packed_outcome c.0) verdicts ≡ map (λ (c : Outcome × ℕ). c.1) verdicts
verdicts-hold = refl

pub mends-hold : map (λ (c : Reply ℕ × ℕ). packed_reply packed_mend c.0) mends ≡ map (λ (c : Reply ℕ × ℕ). c.1) mends
mends-hold = refl

pub walks-hold : map (λ (c : Walk × ℕ). packed_walk c.0) walks ≡ map (λ (c : Walk × ℕ). c.1) walks
walks-hold = refl

pub step-holds : Stepped
step-holds r l ml x = x.leaves.returns ∙ ap (λ (o : Left Counts). packed_reply packed_step o.reply) calls-hold.1.1.0
