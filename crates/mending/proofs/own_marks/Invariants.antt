-- The names passed have their own marks.
use Rattle.records.specs.ArrayFile.{array_in}
use Rattle.mending.specs.Growing.{OwnMarked}
use Rattle.mending.proofs.own_marks.Given as goal

abbrev pub invariant-loop-o : goal.invariant-loop-o
invariant-loop-o l = OwnMarked (array_in l.array) l.o l.initial.rows l.rows
