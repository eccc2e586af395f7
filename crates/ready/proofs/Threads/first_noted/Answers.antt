-- `ready::Threads::first_noted` meets its contract.
use Prim.Native.Nat.{ℕ, ◌<◌}
use native.Mathlib.Omega.{arith}
use mathlib.Core.Path.{◌≡◌, sym, ap, ◌∙◌}
use mathlib.Core.Bool.{false}
use lib.Dec.{eqb}
use lib.ListN.{get_or, length}
use borrow.Author.Count.{below_more}
use Rattle.std.proofs.lemmas.List.{length-take, get_or-take}
use Rattle.ready.specs.Ready.{act_at, meet}
use Rattle.ready.proofs.Noted.{none-past, none_before}
use Rattle.ready.proofs.Told.{ok-told}
use Rattle.ready.proofs.Threads.first_noted.Goals as goal
use Rattle.ready.proofs.Threads.first_noted.Goals.{After-from-s, After-is_ok}

-- the place is one of the noted ones
place : (c : After-from-s) → (c.loop-place.place-index < c.args.senders.now.noted)
    × (c.from-s.result ≡ get_or c.args.senders.now.at c.loop-place.place-index 0)
place c =
    let xs = c.args.senders.now.at in
    let n = c.args.senders.now.noted in
    let below : c.loop-place.place-index < n = omega (arith, length-take n xs, c.loop-place-test.true) in
    (below, c.from-s.ensures ∙ get_or-take n xs _ 0 below)

-- whether its thread is ready
passes : (c : After-is_ok) → let a = c.args.self.now in
    c.is_ok.result ≡ eqb (meet c.args.p (act_at a.array.bytes.now a.array.trailer a.words.now c.from-s.result)) 0
passes c =
    c.is_ok.ensures.value ∙ ok-told c.meets.result
    ∙ ap (λ (k : ℕ). eqb k 0) (c.meets.ensures ∙ ap (meet c.args.p) c.act_at-q.ensures)

pub returns-then-is_ok : goal.returns-then-is_ok
returns-then-is_ok c =
    let a = c.args.self.now in
    let x = c.args.senders.now in
    let at = place (goal.at.returns-then-is_ok c).After-from-s in
    let e = at.1 in
    let before = none_before a.array.bytes.now a.array.trailer a.words.now x.seen x.at x.noted c.requires.2 c.args.p _ at.0 c.loop-place.invariant in
    (rw e (c.requires.2.below _ at.0), λ j h. before j (omega arith), sym (passes (goal.at.returns-then-is_ok c).After-is_ok) ∙ c.if-is_ok.true)

pub loop-place-preserved : goal.loop-place-preserved
loop-place-preserved c =
    let a = c.args.self.now in
    let x = c.args.senders.now in
    let at = place (goal.at.loop-place-preserved c).After-from-s in
    let here = sym (passes (goal.at.loop-place-preserved c).After-is_ok) ∙ c.if-is_ok.false in
    below_more (λ j. eqb (meet c.args.p (act_at a.array.bytes.now a.array.trailer a.words.now (get_or x.at j 0))) 0 ≡ false) _
    c.loop-place.invariant (rw at.1 at here)

pub returns : goal.returns
returns c =
    let a = c.args.self.now in
    let x = c.args.senders.now in
    let few = c.requires.2.few in
    let all : length x.at ≡ 256 = c.requires.1 in
    none-past a.array.bytes.now a.array.trailer a.words.now x.seen x.at x.noted c.requires.2 c.args.p
    (λ k h. c.loop-place.invariant k (omega (arith, length-take x.noted x.at, c.loop-place-test.false, few, all, a.few, c.requires.0)))
