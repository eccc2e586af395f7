-- The loop's invariant: the first i words are the first i 64-bit numbers of the table.
-- The bits of such a number are those of its bytes (`marked-bytes`), since the table's elements are bytes.
use Prim.Native.Nat.{ℕ, ◌*◌, ◌<◌}
use mathlib.Core.Path.{◌≡◌}
use lib.ListN.{length, get_or}
use Rattle.wire.specs.Numbers.{u64_at}
use Rattle.flows.proofs.flow_rows.Given as goal

abbrev pub invariant-loop-i : goal.invariant-loop-i
invariant-loop-i l = (length l.rows ≡ 1024) × ((k : ℕ) → k < l.i → get_or l.rows k 0 ≡ u64_at l.table (8 * k))
