-- The loop's flag says that the sender fits in the balances passed.
use mathlib.Core.Path.{◌≡◌}
use Rattle.laws.specs.Search.{every}
use Rattle.pairs.specs.Pairs.{fits_beside}
use Rattle.pairs.proofs.fits_beside.Given as goal

abbrev pub invariant-loop-k : goal.invariant-loop-k
invariant-loop-k l = l.fits ≡ every l.k (fits_beside l.loads l.rooms l.j)
