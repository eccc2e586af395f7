use Prim.Native.Nat.{ℕ}
use native.Mathlib.Omega.{arith}
use mathlib.Core.Path.{◌≡◌, refl, sym, ap, ap₂, ◌∙◌}
use mathlib.Core.List.{List}
use lib.Bits.{bit_or}
use lib.ListN.{get_or, set}
use Rattle.marks.specs.Marks.{word_at}
use Rattle.scopes.specs.Scope.{passed}
use Rattle.scopes.proofs.Table.{passed-step}
use Rattle.scopes.proofs.pass_down.Goals as goal

pub loop-w-init : goal.loop-w-init
unfolding passed
loop-w-init c = refl

pub loop-w-preserved : goal.loop-w-preserved
loop-w-preserved c =
    let x = c.args in
    let l = c.loop-w in
    let above = c.word_at-above.ensures in
    c.set_word.ensures
    ∙ ap₂ (λ (t : List ℕ) (y : ℕ). set t (word_at x.to l.w) (bit_or y (get_or x.bound l.w 0))) l.invariant
    (above ∙ ap (λ (t : List ℕ). get_or t (word_at x.from l.w) 0) l.invariant)
    ∙ sym (passed-step x.reach.now x.from x.to x.bound l.w)

pub returns : goal.returns
returns c =
    let x = c.args in
    let e : c.loop-w.w ≡ 4 = omega arith in
    c.loop-w.invariant ∙ ap (passed x.reach.now x.from x.to x.bound) e
