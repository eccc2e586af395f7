-- `scopes::fill_scopes` meets its contract. The loop's invariant: the row of every node whose parent has been passed is right (`Filled`).
-- A child lies above its parent, so row j is right when node j is reached, and nothing written then concerns a row that was right.
use mathlib.Core.Path.{◌≡◌}
use lib.ListN.{length}
use Rattle.records.specs.ArrayFile.{array_in}
use Rattle.scopes.proofs.Table.{Filled}
use Rattle.scopes.proofs.fill_scopes.Given as goal

abbrev pub invariant-loop-j : goal.invariant-loop-j
invariant-loop-j l = (length l.reach ≡ 4096) × Filled (array_in l.array) l.reach l.j
