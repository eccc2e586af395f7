-- The needs in the balances below k are kept, and no need gets smaller.
use Prim.Native.Nat.{ℕ, ◌≤◌, ◌<◌}
use mathlib.Core.Path.{◌≡◌}
use lib.ListN.{length}
use Rattle.loads.specs.Loads.{load_in}
use Rattle.pairs.specs.Pairs.{need_of}
use Rattle.senders.specs.Sets.{NeedsGrow}
use Rattle.senders.proofs.join_needs.Given as goal

abbrev pub invariant-loop-k : goal.invariant-loop-k
invariant-loop-k l = record {
  size : length l.needs ≡ 288;
  grow : NeedsGrow l.initial.needs l.needs;
  kept : (j : ℕ) → j < l.k → need_of l.loads l.q.number l.q.node.left j ≤ load_in l.needs l.g j;
}
