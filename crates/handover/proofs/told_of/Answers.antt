-- By the turn: an ending with the steps made, or the step.
use Prim.Native.Nat.{ℕ, ◌-◌}
use mathlib.Core.Path.{sym, ap, ◌∙◌}
use Rattle.engine.specs.declared.Stride.{Stride}
use Rattle.handover.specs.declared.Told.TheVariants.{Ended}
use Rattle.handover.specs.Bodies.{told_of}
use Rattle.handover.proofs.told_of.Goals as goal

pub returns-in-Ended : goal.returns-in-Ended
returns-in-Ended c =
    let w = c.args.allowance in
    ap (λ (n : ℕ). Ended c.in-Ended.e n) c.made.ensures
    ∙ ap (λ (s : Stride). told_of s (w.allowed - w.left)) (sym c.in-Ended.is)

pub returns-in-Made : goal.returns-in-Made
returns-in-Made c =
    let w = c.args.allowance in
    ap (λ (s : Stride). told_of s (w.allowed - w.left)) (sym c.in-Made.is)
