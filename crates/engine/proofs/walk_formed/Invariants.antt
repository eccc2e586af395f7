-- The loop's invariant: the lists are well formed, and the whole walk is what is left of it with the steps made so far added.
use Prim.Native.Nat.{◌-◌, ◌≤◌}
use mathlib.Core.Path.{◌≡◌}
use mathlib.Core.Bool.{true}
use lib.ListN.{length}
use Rattle.model.specs.Calculus.{choices_of}
use Rattle.model.specs.Memory.{formed, walk_in}
use Rattle.records.specs.Record.{array_of}
use Rattle.lent.specs.Lent.{lent_of}
use Rattle.engine.specs.Engine.{added}
use Rattle.engine.proofs.walk_formed.Given as goal

abbrev pub invariant-loop-ending : goal.invariant-loop-ending
invariant-loop-ending l =
    (l.allowance.left ≤ l.allowed) × (l.allowance.allowed ≡ l.allowed) × (formed (array_of l.ground.array.bytes.now l.ground.array.trailer) (lent_of l.threads l.markers l.used) ≡ true)
    × (length l.threads ≡ length l.initial.threads) × (length l.markers ≡ length l.initial.markers)
    × (walk_in (array_of l.ground.array.bytes.now l.ground.array.trailer) (choices_of l.ground.choices.now) l.allowed (lent_of l.initial.threads l.initial.markers l.initial.used)
    ≡ added (l.allowed - l.allowance.left) (walk_in (array_of l.ground.array.bytes.now l.ground.array.trailer) (choices_of l.ground.choices.now) l.allowance.left (lent_of l.threads l.markers l.used)))

abbrev pub decreases-loop-ending : goal.decreases-loop-ending
decreases-loop-ending l = l.allowance.left
