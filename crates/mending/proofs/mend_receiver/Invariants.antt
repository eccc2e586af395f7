-- The sets passed so far were looked at, whichever sets the lists stand for.
use Prim.Native.Nat.{ℕ, ◌<◌}
use mathlib.Core.List.{List}
use Rattle.pairs.specs.Weighing.{beside}
use Rattle.mending.specs.Growing.{Stale, SetNoted}
use Rattle.mending.specs.Beside.{GrewBeside}
use Rattle.mending.proofs.mend_receiver.Given as goal

abbrev pub invariant-loop-g : goal.invariant-loop-g
invariant-loop-g l = record {
  grew : GrewBeside l.w l.initial.so_far l.so_far;
  noted : (chosen : List ℕ) (k : Stale (beside l.w l.initial.so_far.rows) l.initial.so_far.names chosen l.sets) (x : ℕ) → x < l.g
      → SetNoted (beside l.w l.so_far.rows) l.so_far.names chosen k.gathered.sets l.p x;
}
