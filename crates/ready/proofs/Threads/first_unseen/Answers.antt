-- `ready::Threads::first_unseen` meets its contract.
use Prim.Native.Nat.{ℕ, ◌+◌, ◌<◌}
use native.Mathlib.Omega.{arith}
use mathlib.Core.Path.{◌≡◌, sym, ap, ◌∙◌, subst}
use mathlib.Core.Bool.{false}
use lib.Dec.{eqb}
use lib.ListN.{length, length-set}
use borrow.Author.Count.{below_more}
use Rattle.ready.specs.declared.Senders.{Senders}
use Rattle.ready.specs.Ready.{act_at, meet, Noted}
use Rattle.ready.proofs.Noted.{noted_more}
use Rattle.ready.proofs.Told.{ok-told}
use Rattle.ready.proofs.Threads.first_unseen.Goals as goal
use Rattle.ready.proofs.Threads.first_unseen.Goals.{After-see, After-is_ok}

-- the list is that of one thread more
more : (c : After-see) → let a = c.args.self.now in
    let n = c.see.new.self in
    (n.seen ≡ c.loop-s.s + 1) × (length n.at ≡ 256) × Noted a.array.bytes.now a.array.trailer a.words.now (c.loop-s.s + 1) n.at n.noted
more c =
    let a = c.args.self.now in
    let l = c.loop-s in
    let x = l.senders in
    let room : l.s < length x.at = omega (arith, l.invariant.1, a.few, c.loop-s-test.true) in
    let e = c.see.ensures in
    let noted = noted_more a.array.bytes.now a.array.trailer a.words.now l.s x.at x.noted l.invariant.2 c.act_at-q.result c.act_at-q.ensures room in (
      ap (λ (v : Senders). v.seen) e ∙ ap (λ (k : ℕ). k + 1) l.invariant.0,
      ap (λ (v : Senders). length v.at) e ∙ length-set x.at x.noted x.seen ∙ l.invariant.1,
      rw e (rw l.invariant.0 noted),
    )

-- whether thread s is ready
passes : (c : After-is_ok) → let a = c.args.self.now in
    c.is_ok.result ≡ eqb (meet c.args.p (act_at a.array.bytes.now a.array.trailer a.words.now c.loop-s.s)) 0
passes c =
    c.is_ok.ensures.value ∙ ok-told c.meets.result
    ∙ ap (λ (k : ℕ). eqb k 0) (c.meets.ensures ∙ ap (meet c.args.p) c.act_at-q.ensures)

pub returns-then-is_ok : goal.returns-then-is_ok
returns-then-is_ok c =
    let a = c.args.self.now in
    let x = c.see.new.self in
    let m = more (goal.at.returns-then-is_ok c).After-see in
    let e = m.0 in (
      (c.loop-s-test.true, c.loop-s.invariant.3, sym (passes (goal.at.returns-then-is_ok c).After-is_ok) ∙ c.if-is_ok.true),
      (
        omega (arith, c.loop-s-test.true),
        m.1,
        subst (λ (i : ℕ). Noted a.array.bytes.now a.array.trailer a.words.now i x.at x.noted) (sym e) m.2,
      ),
    )

pub loop-s-preserved : goal.loop-s-preserved
loop-s-preserved c =
    let a = c.args.self.now in
    let m = more (goal.at.loop-s-preserved c).After-see in (
      m.0,
      m.1,
      m.2,
      below_more (λ j. eqb (meet c.args.p (act_at a.array.bytes.now a.array.trailer a.words.now j)) 0 ≡ false) _ c.loop-s.invariant.3
          (sym (passes (goal.at.loop-s-preserved c).After-is_ok) ∙ c.if-is_ok.false),
    )
