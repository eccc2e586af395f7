use mathlib.Core.Path.{◌≡◌, sym, ◌∙◌}
use native.Mathlib.Omega.{arith}
use Rattle.laws.proofs.Search.{clear-test, hit-test, first-zero, first-pass, first-here}
use Rattle.records.proofs.first_failing.Goals as goal

pub loop-i-init : goal.loop-i-init
loop-i-init g c p tells = first-zero _

pub returns-then-not-passes : goal.returns-then-not-passes
returns-then-not-passes g c p tells =
    let before = c.loop-i.invariant p tells in
    let fails = sym (tells c.loop-i.i c.loop-i-test.true before _ c.passes.ensures) ∙ c.if-not-passes.true in
    rw c.at.ensures (sym (first-here _ c.loop-i.i c.args.n _ before (hit-test _ _ fails) c.loop-i-test.true))

pub loop-i-preserved : goal.loop-i-preserved
loop-i-preserved g c p tells =
    let before = c.loop-i.invariant p tells in
    let here = sym (tells c.loop-i.i c.loop-i-test.true before _ c.passes.ensures) ∙ c.if-not-passes.false in
    first-pass _ c.loop-i.i before (clear-test _ _ here)

pub returns : goal.returns
returns g c p tells =
    let e : c.loop-i.i ≡ c.args.n = omega arith in
    sym (rw e at (c.loop-i.invariant p tells))
