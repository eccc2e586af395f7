-- The entry of the list is the one that `entry` finds.
use mathlib.Core.Path.{ap}
use Prim.Native.Nat.{ℕ}
use lib.ListN.{get_or}
use native.Mathlib.Omega.{arith}
use Rattle.loads.proofs.load_at.Goals as goal

pub returns : goal.returns
returns c =
    let e = ap (λ (n : ℕ). get_or c.args.loads.now n 0) c.entry.ensures in
    (e, omega (arith, c.requires.1))
