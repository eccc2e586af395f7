-- The part has the length of the bytes that it is.
use mathlib.Core.Path.{ap}
use lib.ListN.{length}
use mathlib.Core.List.{List}
use Prim.Native.Nat.{ℕ}
use Rattle.handover_c.proofs.handover_remark.Goals as goal

pub returns : goal.returns
returns c = ap (λ (l : List ℕ). length l) c.remark.ensures.0
