use mathlib.Core.Path.{◌∙◌, subst}
use mathlib.Core.List.{List}
use Prim.Native.Nat.{ℕ}
use native.Mathlib.Omega.{arith}
use Rattle.marks.specs.Marks.{Joined}
use Rattle.mending.proofs.Own.{own-more}
use Rattle.mending.proofs.own_marks.Goals as goal

pub loop-o-preserved : goal.loop-o-preserved
loop-o-preserved c =
    let l = c.loop-o in
    own-more _ l.o _ l.rows c.join.new.one _ (omega (arith, c.loop-o-test.true, c.requires)) (c.is_marked.ensures ∙ c.opened-news.ensures l.o)
    l.invariant (subst (λ (row : List ℕ). Joined l.rows c.join.new.one l.o row 0) c.mark_if.ensures c.join.ensures)
