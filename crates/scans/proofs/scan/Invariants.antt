-- The loop's invariant: the tables hold what the nodes passed say, and each of these nodes has passed its tests (`Scanned`).
use Rattle.scans.proofs.Laws.{Scanned}
use Rattle.scans.proofs.scan.Given as goal

abbrev pub invariant-loop-i : goal.invariant-loop-i
invariant-loop-i g l = Scanned g.row.NODES l.array.bytes.now l.array.trailer l.reach l.parents l.binders l.i
