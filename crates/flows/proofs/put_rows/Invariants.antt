-- The loop's invariant: the first i bytes of the rows are written.
use mathlib.Core.Path.{◌≡◌}
use lib.ListN.{length}
use Rattle.laws.specs.Lists.{put}
use Rattle.marks.specs.Marks.{marked}
use Rattle.flows.specs.Written.{row_bytes}
use Rattle.flows.proofs.put_rows.Given as goal

abbrev pub invariant-loop-i : goal.invariant-loop-i
invariant-loop-i l = (l.output ≡ put 0 (row_bytes l.i (marked l.rows)) l.initial.output) × (length l.output ≡ length l.initial.output)
