-- The words below w are joined, of a copy of row v.
use Rattle.marks.proofs.Laws.{Joining}
use Rattle.marks.proofs.join.Given as goal

abbrev pub invariant-loop-w : goal.invariant-loop-w
invariant-loop-w l = Joining l.initial.one l.one l.u l.row 0 l.w
