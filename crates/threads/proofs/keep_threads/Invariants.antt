-- `threads::keep_threads` meets its contract. The loop's invariant: the words of those of the first i threads that stay stand first,
-- and nothing past them changed.
use Prim.Native.Nat.{◌+◌, ◌*◌, ◌≤◌}
use mathlib.Core.Path.{◌≡◌}
use lib.ListN.{length}
use Rattle.laws.specs.Lists.{put}
use Rattle.threads.specs.Threads.{remains}
use Rattle.threads.proofs.Moves.{kept}
use Rattle.threads.proofs.keep_threads.Given as goal

abbrev pub invariant-loop-i : goal.invariant-loop-i
invariant-loop-i l =
    let words = kept l.names l.count l.initial.threads (remains l.resource l.r l.s) l.i in
    (l.to ≤ l.i * (2 + l.names)) × (l.to ≡ length words) × (l.threads ≡ put 0 words l.initial.threads)
