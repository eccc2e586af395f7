-- 1 shifted left by less than 64 is the power of two that the definition names.
use Prim.Native.Nat.{ℕ, ◌/◌, ◌%◌}
use native.Mathlib.Omega.{arith}
use mathlib.Core.Path.{ap}
use lib.Bits.{bit_or}
use lib.ListN.{get_or, set}
use Rattle.marks.specs.Marks.{mark_if}
use Rattle.laws.proofs.Bits.{one_shifted}
use Rattle.marks.proofs.mark_if.Goals as goal

pub returns-then-on : goal.returns-then-on
unfolding mark_if
returns-then-on c =
    let x = c.args in
    rw c.if-on.true
    (ap (λ (n : ℕ). set x.row.now (x.v / 64) (bit_or (get_or x.row.now (x.v / 64) 0) n)) (one_shifted (x.v % 64) (omega arith)))

pub returns-else-on : goal.returns-else-on
unfolding mark_if
returns-else-on c = rw c.if-on.false
