use Prim.Native.Nat.{ℕ, ◌+◌, ◌*◌, zero-le}
use native.Mathlib.Omega.{arith}
use mathlib.Core.Path.{◌≡◌, sym, ap, ◌∙◌}
use mathlib.Core.Bool.{true, false}
use mathlib.Core.List.{List}
use lib.ListN.{length}
use Rattle.laws.specs.Lists.{put}
use Rattle.laws.proofs.Put.{part_length, put-nil}
use Rattle.model.proofs.Memory.{slot, next-slot}
use Rattle.threads.specs.Threads.{remains}
use Rattle.threads.proofs.Moves.{kept, kept-none, kept-all, kept-turn}
use Rattle.threads.proofs.keep_threads.Goals as goal
use Rattle.threads.proofs.keep_threads.Goals.{then-stays, else-stays}

pub loop-i-init : goal.loop-i-init
loop-i-init c =
    let x = c.args in
    let none = kept-none x.names x.count x.threads.now (remains x.resource x.r x.s) in
    (zero-le, sym (ap length none), sym (ap (λ (t : List ℕ). put 0 t x.threads.now) none ∙ put-nil 0 x.threads.now))

pub loop-i-preserved : goal.loop-i-preserved
unfolding remains
loop-i-preserved c =
    let x = c.args in
    let l = c.loop-i in
    let width = 2 + x.names in
    let z = slot x.names l.i x.count c.loop-i-test.true in
    let e = next-slot x.names l.i in
    let f = remains x.resource x.r x.s in
    let turn = kept-turn x.names x.count x.threads.now f c.requires.0 l.i c.loop-i-test.true l.to l.threads l.invariant.1 l.invariant.0 l.invariant.2 in
    elim c.if-stays.branch [
      | then-stays w ↦
          let stays : f l.i ≡ true = w.if-stays.true in
          let both = rw stays at turn in
          let n = part_length l.threads (l.i * width) width (omega arith) in
          (omega arith, omega (arith, both.1, n, w.to-is), w.threads-is ∙ w.move_down.ensures ∙ both.0)
      | else-stays w ↦
          let goes : f l.i ≡ false = w.if-stays.false in
          let both = rw goes at turn in
          (omega arith, omega (arith, both.1, w.to-is), w.threads-is ∙ sym (put-nil l.to l.threads) ∙ both.0)
    ]

pub returns : goal.returns
returns c =
    let x = c.args in
    let l = c.loop-i in
    let done : l.i ≡ x.count = omega arith in
    let f = remains x.resource x.r x.s in
    let all = ap (λ (i : ℕ). kept x.names x.count x.threads.now f i) done ∙ kept-all x.names x.count x.threads.now f in
    l.invariant.2 ∙ ap (λ (t : List ℕ). put 0 t x.threads.now) all
