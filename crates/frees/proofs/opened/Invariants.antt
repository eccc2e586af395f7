-- `frees::opened` meets its contract. The loop's invariant: the row has the names that the nodes passed open (`Opened`).
-- A record's name is a byte of the file, so it is below 256.
use mathlib.Core.Path.{◌≡◌}
use lib.ListN.{length}
use Rattle.records.specs.ArrayFile.{array_in}
use Rattle.frees.proofs.Laws.{Opened}
use Rattle.frees.proofs.opened.Given as goal

abbrev pub invariant-loop-i : goal.invariant-loop-i
invariant-loop-i l = (length l.row ≡ 4) × Opened (array_in l.array) l.row l.i
