-- Counts against the room of a list, and `formed` by the tests that the code makes.
use Prim.Native.Nat.{ℕ, ◌≤◌, min}
use native.Mathlib.Omega.{arith}
use mathlib.Core.Path.{◌≡◌, refl}
use mathlib.Core.Bool.{true, false, ◌&&◌}
use mathlib.Core.List.{List}
use lib.Dec.{leb}
use borrow.Author.Tests.{leb-true, leb-false, lt-leb}
use Rattle.model.specs.Tree.{Array}
use Rattle.model.specs.Memory.{Memory, config_of, entries_of, thread_room, marker_room, formed}
use Rattle.threads.specs.Threads.{threads_formed}
use Rattle.markers.specs.Markers.{entries_formed}

-- a count of threads where 257 stands for more than 256: it fits where the number itself does, and then it is that number
module _ (names : ℕ) (l : List ℕ) (n k : ℕ) (e : n ≡ min 257 k) where
  pub too_many : leb n (thread_room names l) ≡ false → leb k (thread_room names l) ≡ false
  too_many h = let x = leb-false n _ h in lt-leb k _ (omega arith)

  pub few-enough : leb n (thread_room names l) ≡ true → (n ≡ k) × (k ≤ thread_room names l)
  few-enough h = let x = leb-true n _ h in (omega arith, omega arith)

-- well formed by the four tests made, in their order
pub formed-tests : (a : Array) (m : Memory) → formed a m
    ≡ leb m.thread_count (thread_room a.names m.threads)
    && (leb m.marker_count (marker_room m.markers)
    && (threads_formed a (config_of a m) m.thread_count m.marker_count && entries_formed a (entries_of m) m.marker_count))
unfolding formed threads_formed entries_formed
formed-tests a m = refl
