-- The loop's invariant: row i has the loads from the list as it was in the balances below k, and the rows above it are as they were.
use mathlib.Core.Path.{◌≡◌}
use lib.ListN.{length}
use Rattle.layout.specs.Table.{balance_at, weight_at}
use Rattle.loads.proofs.Laws.{SameAbove, RowTo}
use Rattle.loads.proofs.fill_node.Given as goal

abbrev pub invariant-loop-k : goal.invariant-loop-k
invariant-loop-k l =
    (length l.loads ≡ 24578) × SameAbove l.initial.loads l.loads l.i
    × RowTo l.initial.loads l.loads l.r (λ m. weight_at l.table.bytes.now (balance_at l.table.sizes m) l.i) l.i l.k
