-- The nodes passed so far were looked at beside the senders that were gathered at the start.
use Rattle.pairs.specs.Weighing.{beside}
use Rattle.mending.specs.Growing.{Swept}
use Rattle.mending.specs.Beside.{GrewBeside}
use Rattle.mending.proofs.sweep_small.Given as goal

abbrev pub invariant-loop-i : goal.invariant-loop-i
invariant-loop-i l = record {
  grew : GrewBeside l.w l.initial.so_far l.so_far;
  swept : Swept (beside l.w l.so_far.rows) l.so_far.names l.scope.chosen l.scope.reach l.scope.on l.i;
}
