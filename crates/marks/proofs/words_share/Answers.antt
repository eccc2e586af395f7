-- A number is not 0 where some bit is set, and the bits of x & y are those that both have: a word is below 2^64.
use native.Mathlib.Omega.{arith}
use lib.ListN.{get_or}
use Rattle.laws.proofs.Bits.{and-some}
use Rattle.marks.specs.Marks.{word_at, words_share}
use Rattle.marks.proofs.words_share.Goals as goal

pub returns : goal.returns
unfolding words_share
returns c =
    let x = c.args in
    let one = get_or x.one.now (word_at x.u x.w) 0 in
    let other = get_or x.other.now (word_at x.v x.w) 0 in
    let known = c.type_inv.one (word_at x.u x.w) in
    rw (c.word_at-x.ensures, c.word_at-y.ensures) (and-some 64 one other (omega (arith, known)))
