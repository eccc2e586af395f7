-- Numbers of 64 bits are equal where their bits are, and x & y has the bits of x that are bits of y.
use native.Mathlib.Omega.{arith}
use lib.ListN.{get_or}
use Rattle.laws.proofs.Bits.{and-whole}
use Rattle.marks.specs.Marks.{word_at, word_inside}
use Rattle.marks.proofs.word_inside.Goals as goal

pub returns : goal.returns
unfolding word_inside
returns c =
    let x = c.args in
    let one = get_or x.one.now (word_at x.u x.w) 0 in
    let other = get_or x.other.now (word_at x.v x.w) 0 in
    let known = c.type_inv.one (word_at x.u x.w) in
    rw (c.word_at-x.ensures, c.word_at-y.ensures) (and-whole 64 one other (omega (arith, known)))
