-- `frees::fill_frees` meets its contract. The loop's invariant: the rows of the nodes from i on are right.
use mathlib.Core.Path.{◌≡◌}
use lib.ListN.{length}
use Rattle.records.specs.ArrayFile.{array_in}
use Rattle.frees.specs.Frees.{FreeFrom}
use Rattle.frees.proofs.fill_frees.Given as goal

abbrev pub invariant-loop-i : goal.invariant-loop-i
invariant-loop-i l = (length l.frees ≡ 4096) × FreeFrom l.frees (array_in l.array) l.i
