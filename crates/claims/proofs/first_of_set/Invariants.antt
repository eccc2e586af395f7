-- The loop's invariant: no claim passed has claim c's set number. So the search ends at c, if not before.
use Prim.Native.Nat.{ℕ, ◌≤◌, ◌<◌, ◌-◌}
use mathlib.Core.Logic.{◌≢◌}
use Rattle.layout.specs.Table.{table_of}
use Rattle.claims.proofs.first_of_set.Given as goal

abbrev pub invariant-loop-z : goal.invariant-loop-z
invariant-loop-z l = (l.d ≤ l.c) × ((e : ℕ) → e < l.d → ((table_of l.table l.z).claim e).set ≢ l.set)

abbrev pub decreases-loop-z : goal.decreases-loop-z
decreases-loop-z l = l.c - l.d
