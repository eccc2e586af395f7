-- The loop's invariant: the loads of the nodes from i on are in the list.
use Rattle.records.specs.ArrayFile.{array_in}
use Rattle.layout.specs.TableFile.{table_in}
use Rattle.loads.specs.Loads.{FilledFrom}
use Rattle.loads.proofs.all_loads.Given as goal

abbrev pub invariant-loop-i : goal.invariant-loop-i
invariant-loop-i l = FilledFrom l.loads (array_in l.array) (table_in l.table) l.i
