-- The senders of the set from the next one on were looked at: what live ones send is in the list, and nothing else is that was not there.
use Prim.Native.Nat.{ℕ}
use mathlib.Core.List.{List}
use Rattle.pairs.specs.declared.Side.{Side}
use Rattle.pairs.specs.Pairs.{Setting}
use Rattle.pairs.specs.Weighing.{beside}
use Rattle.pairs.proofs.Search.{side_at}
use Rattle.mending.specs.Growing.{Gained, Sends}
use Rattle.mending.proofs.Along.{AtLink}
use Rattle.mending.proofs.join_members.Given as goal

-- what is to be seen of the sender at node j
abbrev pub Seen : Setting → Side → List ℕ → ℕ → Type 0
Seen S p sent j = Sends S p sent (side_at S j)

abbrev pub invariant-loop-next : goal.invariant-loop-next
invariant-loop-next l = record {
  gained : Gained (beside l.w l.rows) l.p l.initial.sent l.sent;
  seen : AtLink (beside l.w l.rows) l.g l.sets.links (Seen (beside l.w l.rows) l.p l.sent) l.next;
}

abbrev pub decreases-loop-next : goal.decreases-loop-next
decreases-loop-next l = l.next
