use Prim.Native.Nat.{ℕ, ◌+◌, ◌-◌}
use mathlib.Core.Path.{ap₂, ◌∙◌}
use lib.ListN.{length-set}
use Rattle.pairs.specs.Pairs.{gone_of}
use Rattle.pairs.proofs.ByDifference.{differences-more}
use native.Mathlib.Omega.{arith}
use Rattle.pairs.proofs.differences.Goals as goal

pub loop-k-preserved : goal.loop-k-preserved
loop-k-preserved c =
    let l = c.loop-k in
    let few = c.requires.few.1 in
    let weight = c.load_at-weight.ensures.0 in
    let gone = c.gone.ensures.0 ∙ ap₂ gone_of c.is_resource-stays.ensures weight in (
      length-set l.gives _ _ ∙ l.invariant.0,
      length-set l.rooms _ _ ∙ l.invariant.1,
      differences-more c.args.loads.now c.args.bounds.now c.args.p l.k l.gives l.rooms (omega arith) (omega arith) l.invariant.2 _ _
          (c.saturating_sub.ensures ∙ ap₂ (λ (a b : ℕ). (65536 + a) - b) gone c.load_at-next.ensures.0)
          (c.saturating_sub-in-loop-k.ensures ∙ ap₂ (λ (a b : ℕ). (a + 1) - b) c.cap.ensures.0 weight),
    )
