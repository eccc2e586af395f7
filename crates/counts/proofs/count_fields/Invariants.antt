-- The loop's invariant: the table has counted the children of every record below j.
use Rattle.std.proofs.Common.{replicate}
use Rattle.model.specs.Formed.{children}
use Rattle.counts.proofs.Laws.{Counted, adds}
use Rattle.counts.proofs.count_fields.Given as goal

abbrev pub invariant-loop-j : goal.invariant-loop-j
invariant-loop-j l = Counted (replicate 1024 0) l.table (adds children l.array.bytes.now l.array.trailer) l.j
