-- The loop's invariant: the first k bounds are filled. A balance lies before the claims (`balance-fits`), so its bound lies in the table.
use Prim.Native.Nat.{ℕ, ◌<◌}
use mathlib.Core.Path.{◌≡◌}
use lib.ListN.{get_or}
use Rattle.wire.specs.Numbers.{u32_at}
use Rattle.layout.specs.Table.{balance_at}
use Rattle.lists.proofs.all_bounds.Given as goal

abbrev pub invariant-loop-k : goal.invariant-loop-k
invariant-loop-k l = (j : ℕ) → j < l.k → get_or l.bounds j 0 ≡ u32_at l.table.bytes.now (balance_at l.table.sizes j)
