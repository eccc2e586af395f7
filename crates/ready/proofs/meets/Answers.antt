-- `ready::meets` meets its contract: the three tests in their order.
use mathlib.Core.Bool.{not, ◌&&◌}
use lib.Dec.{eqb}
use native.Mathlib.Omega.{arith}
use borrow.Author.Tests.{eq-eqb, ne_eqb}
use Rattle.ready.specs.Ready.{meet}
use Rattle.ready.proofs.meets.Goals as goal

pub returns-then-not-p-q : goal.returns-then-not-p-q
unfolding meet
returns-then-not-p-q c =
    let x = c.args in
    let one = x.p.receives && x.q.sends in
    rw (c.if-not-p-q.true)

pub returns-then-p-q : goal.returns-then-p-q
unfolding meet
returns-then-p-q c =
    let x = c.args in
    let one = x.p.receives && x.q.sends in
    let two = ne_eqb x.p.arity x.q.arity (λ e. absurd (omega (arith, c.if-p-q.true))) in
    rw (c.if-not-p-q.false, two)

pub returns-then-not-p-q-2 : goal.returns-then-not-p-q-2
unfolding meet
returns-then-not-p-q-2 c =
    let x = c.args in
    let one = x.p.receives && x.q.sends in
    let three = not (eqb x.p.channel 0) && eqb x.p.channel x.q.channel in
    let two = eq-eqb x.p.arity x.q.arity c.if-p-q.false in
    rw (c.if-not-p-q.false, two, c.if-not-p-q-2.true)

pub returns : goal.returns
unfolding meet
returns c =
    let x = c.args in
    let one = x.p.receives && x.q.sends in
    let three = not (eqb x.p.channel 0) && eqb x.p.channel x.q.channel in
    let two = eq-eqb x.p.arity x.q.arity c.if-p-q.false in
    rw (c.if-not-p-q.false, two, c.if-not-p-q-2.false)
