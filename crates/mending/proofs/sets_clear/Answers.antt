use mathlib.Core.Path.{sym, ◌∙◌}
use Rattle.laws.proofs.Search.{every-zero, every-pass, false-every}
use Rattle.mending.specs.Growing.{set_clear}
use Rattle.mending.proofs.sets_clear.Goals as goal

pub loop-n-init : goal.loop-n-init
loop-n-init c = every-zero _

pub returns-then-not-set_clear : goal.returns-then-not-set_clear
returns-then-not-set_clear c =
    let x = c.args in
    sym (false-every 12 (set_clear x.sets.now.unions x.sets.now.arities x.rows.now x.p) c.loop-n.n c.loop-n-test.true
    (sym c.set_clear.ensures ∙ c.if-not-set_clear.true))

pub loop-n-preserved : goal.loop-n-preserved
loop-n-preserved c =
    let x = c.args in
    every-pass (set_clear x.sets.now.unions x.sets.now.arities x.rows.now x.p) c.loop-n.n c.loop-n.invariant
    (sym c.set_clear.ensures ∙ c.if-not-set_clear.false)
