-- `frees::fill_row` meets its contract. The loop's invariant: the first w words of row i are right, and every word outside row i is as it was.
use mathlib.Core.Path.{◌≡◌}
use lib.ListN.{length}
use Rattle.records.specs.Record.{node_of}
use Rattle.frees.proofs.Laws.{SameElse, RowTo}
use Rattle.frees.proofs.fill_row.Given as goal

abbrev pub invariant-loop-w : goal.invariant-loop-w
invariant-loop-w l =
    (length l.frees ≡ length l.initial.frees) × SameElse l.initial.frees l.frees l.i × RowTo l.initial.frees l.frees l.i (node_of l.r) l.w
