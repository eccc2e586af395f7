-- The loop's invariant: the marks have counted the names that every record below j binds.
use Rattle.std.proofs.Common.{replicate}
use Rattle.model.specs.Formed.{binds}
use Rattle.counts.proofs.Laws.{Counted, adds}
use Rattle.counts.proofs.count_binders.Given as goal

abbrev pub invariant-loop-j : goal.invariant-loop-j
invariant-loop-j l = Counted (replicate 256 0) l.marks (adds binds l.array.bytes.now l.array.trailer) l.j
