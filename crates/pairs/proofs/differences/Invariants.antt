-- The differences of the balances passed are there.
use mathlib.Core.Path.{◌≡◌}
use lib.ListN.{length}
use Rattle.pairs.specs.Pairs.{Differences}
use Rattle.pairs.proofs.differences.Given as goal

abbrev pub invariant-loop-k : goal.invariant-loop-k
invariant-loop-k l =
    (length l.gives ≡ 24) × (length l.rooms ≡ 24) × Differences l.k l.loads l.bounds l.p l.gives l.rooms
