use Prim.Native.Nat.{ℕ}
use native.Mathlib.Omega.{arith}
use mathlib.Core.Path.{◌≡◌, refl, sym, ap, ◌∙◌, subst}
use Rattle.std.specs.Prelude.{Some}
use Rattle.laws.specs.Search.{first}
use Rattle.laws.proofs.Search.{first-zero, first-pass, first-here}
use Rattle.model.specs.Memory.{try}
use Rattle.ready.specs.declared.Act.{Act}
use Rattle.ready.specs.Ready.{NoneReady, FirstSender, first_meeting}
use Rattle.ready.proofs.Laws.{row, row-hit, row-clear}
use Rattle.ready.proofs.Noted.{noted-none}
use Rattle.ready.proofs.first_ready.Goals as goal
use Rattle.ready.proofs.first_ready.Goals.{Start}

pub loop-receiver-init : goal.loop-receiver-init
loop-receiver-init c = (λ ch. first-zero _, (omega arith, refl, noted-none _ _ _ _))

pub returns-in-Some : goal.returns-in-Some
unfolding first_meeting
returns-in-Some c ch =
    let a = c.args.array.now in
    let s = a.bytes.now in
    let t = a.trailer in
    let ws = c.args.threads.now in
    let r = c.loop-receiver.receiver in
    let below = c.loop-receiver-test.true in
    let q = c.in-Some.sender in
    let f = subst (λ (v : Act). FirstSender s t ws c.args.count v (Some q)) c.act_at-p.ensures c.in-Some.ensures.0 in
    let found = row-hit s t ws c.args.count c.requires.by_index c.requires.read.0 r below ch q f in
    sym (first-here (row s t ws c.args.count ch) r c.args.count (try ch r q) (c.loop-receiver.invariant.0 ch) found below)

pub loop-receiver-preserved : goal.loop-receiver-preserved
loop-receiver-preserved c =
    let a = c.args.array.now in
    let s = a.bytes.now in
    let t = a.trailer in
    let ws = c.args.threads.now in
    let r = c.loop-receiver.receiver in
    let f = subst (λ (v : Act). NoneReady s t ws v c.args.count) c.act_at-p.ensures c.in_default.ensures.0 in (
      λ ch. first-pass (row s t ws c.args.count ch) r (c.loop-receiver.invariant.0 ch)
          (row-clear s t ws c.args.count c.requires.by_index c.requires.read.0 r c.loop-receiver-test.true ch f),
      c.in_default.ensures.1,
    )

pub returns : goal.returns
unfolding first_meeting
returns c ch =
    let a = c.args.array.now in
    let done : c.loop-receiver.receiver ≡ c.args.count = omega arith in
    sym (ap (λ (n : ℕ). first n (row a.bytes.now a.trailer c.args.threads.now c.args.count ch)) (sym done) ∙ c.loop-receiver.invariant.0 ch)
