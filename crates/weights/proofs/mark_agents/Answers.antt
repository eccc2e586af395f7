use Prim.Native.Nat.{◌<◌}
use mathlib.Core.Path.{refl, ap, ◌∙◌}
use mathlib.Core.Bool.{false}
use lib.ListN.{length, length-set}
use lib.Seq.{get_or-set_same, get_or-set_other}
use borrow.Author.Count.{below_none, below_more}
use Rattle.model.specs.Tree.{is_agent}
use native.Mathlib.Omega.{arith}
use Rattle.weights.proofs.mark_agents.Goals as goal

pub loop-i-init : goal.loop-i-init
loop-i-init c = (refl, below_none _)

pub loop-i-preserved : goal.loop-i-preserved
loop-i-preserved c =
    let l = c.loop-i in
    let there : l.i < length l.agents = omega arith in (
      length-set l.agents _ _ ∙ l.invariant.0,
      below_more _ _
          (λ j h. get_or-set_other l.agents l.i j _ false (λ q. absurd (omega arith)) ∙ l.invariant.1 j h)
          (get_or-set_same l.agents l.i _ false there ∙ c.is_agent.ensures ∙ ap is_agent c.node_or_stop.ensures),
    )
