-- The loop's invariant: none of the noted senders before the place is ready with receiver p.
use Prim.Native.Nat.{ℕ, ◌<◌}
use mathlib.Core.Path.{◌≡◌}
use mathlib.Core.Bool.{false}
use lib.Dec.{eqb}
use lib.ListN.{get_or}
use Rattle.ready.specs.Ready.{act_at, meet}
use Rattle.ready.proofs.Threads.first_noted.Given as goal

abbrev pub invariant-loop-place : goal.invariant-loop-place
invariant-loop-place l =
    (j : ℕ) → j < l.place-index → eqb (meet l.p (act_at l.self.array.bytes.now l.self.array.trailer l.self.words.now (get_or l.senders.at j 0))) 0 ≡ false
