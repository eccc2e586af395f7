use mathlib.Core.Path.{◌≡◌, sym, ap₂, ◌∙◌}
use mathlib.Core.Bool.{Bool, not, ◌||◌}
use Rattle.laws.proofs.Search.{first-zero}
use Rattle.pairs.specs.Weighing.{array_weighed}
use Rattle.rules.specs.Ruling.{own_marked}
use Rattle.rules.proofs.Laws.{rule-passes, rule-stops}
use Rattle.rules.proofs.first_rule.Goals as goal
use Rattle.rules.proofs.first_rule.Goals.{After-is_marked-own, else-opened-via-then-opened+else-not-own, else-opened-via-else-opened}

tested : (c : After-is_marked-own) → let x = c.args in
    own_marked (array_weighed x.w.now) x.rows.now c.loop-o.o ≡ not c.is_marked-opened.result || c.is_marked-own.result
tested c =
    ap₂ (λ (x y : Bool). not x || y) (sym (c.is_marked-opened.ensures ∙ c.opened-news.ensures _)) (sym c.is_marked-own.ensures)

pub loop-o-init : goal.loop-o-init
loop-o-init c = first-zero _

pub returns-then-not-own : goal.returns-then-not-own
returns-then-not-own c =
    let l = c.loop-o in
    sym (rule-stops 1 _ l.o l.invariant _ c.loop-o-test.true
    (tested (goal.at.returns-then-not-own c).After-is_marked-own ∙ rw (c.if-opened.true, c.if-not-own.true)))

pub loop-o-preserved : goal.loop-o-preserved
loop-o-preserved c =
    rule-passes 1 _ c.loop-o.o c.loop-o.invariant
    (tested (goal.at.loop-o-preserved c).After-is_marked-own
    ∙ elim c.else-opened.branch [
      | else-opened-via-then-opened+else-not-own w ↦ rw (w.if-opened.true, w.if-not-own.false)
      | else-opened-via-else-opened w ↦ rw w.if-opened.false
    ])
