-- What is sent before argument m is kept, and each row keeps its marks.
use Prim.Native.Nat.{ℕ, ◌<◌}
use mathlib.Core.Path.{◌≡◌}
use mathlib.Core.Bool.{true}
use lib.ListN.{length, get_or}
use Rattle.marks.specs.Marks.{inside}
use Rattle.senders.specs.Sets.{sent_row, RowsGrow}
use Rattle.senders.proofs.join_sent.Given as goal

abbrev pub invariant-loop-m : goal.invariant-loop-m
invariant-loop-m l = record {
  size : length l.unions ≡ 432;
  grow : RowsGrow l.initial.unions l.unions;
  kept : (j : ℕ) → j < l.m → inside l.rows (get_or l.q.node.args j 0) l.unions (sent_row l.g j) ≡ true;
}
