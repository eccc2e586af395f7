use Prim.Native.Nat.{ℕ, ◌+◌, ◌-◌, ◌≤◌, ◌<◌}
use native.Mathlib.Omega.{arith}
use mathlib.Core.Path.{◌≡◌, ap, ◌∙◌}
use Rattle.model.specs.Calculus.{choices_of}
use Rattle.records.specs.Record.{array_of}
use Rattle.lent.specs.Lent.{lent_of}
use Rattle.engine.specs.declared.Allowance.{Allowance}
use Rattle.engine.proofs.Laws.{walk_ends, walk-allowance, walk-allowed, walk-formed, walk-goes}
use Rattle.engine.proofs.walk_formed.Goals as goal
use Rattle.engine.proofs.walk_formed.Goals.{In-Made}

-- one step more is made where one less is left
counts : (k j i : ℕ) → i ≡ j - 1 → 0 < j → j ≤ k → k - j + 1 ≡ k - i
counts k j i e p h = omega arith

-- a turn is made where a step is left, and lessens the allowance
turned : (c : In-Made) → let w = c.loop-ending.allowance in
    (0 < w.left) × (c.in-Made.turn.allowance ≡ record { allowed = w.allowed; left = w.left - 1 })
turned c =
    let x = c.args in
    let l = c.loop-ending in
    let m₀ = lent_of x.threads.now x.markers.now x.counts in
    let s = c.stride_formed-stride.ensures in
    let q = c.in-Made.is in
    let a = array_of x.ground.now.array.bytes.now x.ground.now.array.trailer in
    let ch = choices_of x.ground.now.choices.now in
    let n = x.allowed - l.allowance.left in
    let wf = c.args.ground.now.prepared.read.formed in (
      walk-allowed a ch x.allowed m₀ n l.allowance l.threads l.markers l.used l.invariant.5 _ _ _ s _ q wf l.invariant.2,
      walk-allowance a ch x.allowed m₀ n l.allowance l.threads l.markers l.used l.invariant.5 _ _ _ s _ q,
    )

pub returns-in-Ended : goal.returns-in-Ended
returns-in-Ended c =
    let x = c.args in
    let l = c.loop-ending in
    let m₀ = lent_of x.threads.now x.markers.now x.counts in
    let steps = c.made.ensures ∙ ap (λ (k : ℕ). k - l.allowance.left) l.invariant.1 in
    walk_ends (array_of x.ground.now.array.bytes.now x.ground.now.array.trailer) (choices_of x.ground.now.choices.now) x.allowed m₀ (x.allowed - l.allowance.left) l.allowance
    l.threads l.markers l.used l.invariant.5 _ _ _ c.stride_formed-stride.ensures _ c.in-Ended.is _ steps

pub loop-ending-smaller : goal.loop-ending-smaller
loop-ending-smaller c =
    let t = turned (goal.at.loop-ending-smaller c).In-Made in
    omega (arith, t.0, ap (λ (v : Allowance). v.left) t.1)

pub loop-ending-preserved : goal.loop-ending-preserved
loop-ending-preserved c =
    let x = c.args in
    let l = c.loop-ending in
    let m₀ = lent_of x.threads.now x.markers.now x.counts in
    let s = c.stride_formed-stride.ensures in
    let q = c.in-Made.is in
    let a = array_of x.ground.now.array.bytes.now x.ground.now.array.trailer in
    let ch = choices_of x.ground.now.choices.now in
    let n = x.allowed - l.allowance.left in
    let wf = c.args.ground.now.prepared.read.formed in
    let t = turned (goal.at.loop-ending-preserved c).In-Made in
    let left = t.0 in
    let e = t.1 in
    let less = ap (λ (v : Allowance). v.left) e in (
      omega (arith, less, l.invariant.0),
      ap (λ (v : Allowance). v.allowed) e ∙ l.invariant.1,
      walk-formed a ch x.allowed m₀ n l.allowance l.threads l.markers l.used l.invariant.5 _ _ _ s _ q wf l.invariant.2,
      c.stride_formed-stride.auto.threads ∙ l.invariant.3,
      c.stride_formed-stride.auto.markers ∙ l.invariant.4,
      walk-goes a ch x.allowed m₀ n l.allowance l.threads l.markers l.used l.invariant.5 _ _ _ s _ q _
          (counts x.allowed l.allowance.left _ less left l.invariant.0),
    )
