-- The sets passed so far gave nothing but what live senders send.
use Rattle.pairs.specs.Weighing.{beside}
use Rattle.mending.specs.Growing.{Gained}
use Rattle.mending.proofs.join_all.Given as goal

abbrev pub invariant-loop-set : goal.invariant-loop-set
invariant-loop-set l = Gained (beside l.w l.rows) l.p l.initial.sent l.sent
