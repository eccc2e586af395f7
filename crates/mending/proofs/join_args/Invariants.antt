-- The arguments before m are among what is sent.
use Prim.Native.Nat.{ℕ, ◌<◌}
use mathlib.Core.Path.{◌≡◌}
use mathlib.Core.Bool.{◌&&◌, ◌||◌}
use lib.Dec.{ltb}
use lib.ListN.{length, get_or}
use Rattle.marks.specs.Marks.{marked}
use Rattle.mending.proofs.join_args.Given as goal

abbrev pub invariant-loop-m : goal.invariant-loop-m
invariant-loop-m l = record {
  size : length l.sent ≡ 32;
  is : (x o : ℕ) → o < 256
      → marked l.sent x o ≡ marked l.initial.sent x o || (ltb x l.m && marked l.rows (get_or l.q.node.args x 0) o);
}
