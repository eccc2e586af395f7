use Rattle.std.proofs.Common.{◌≡◌, arith}
use Rattle.marks.proofs.Laws.{join-begun, join_more, join-done}
use Rattle.marks.proofs.join.Goals as goal

pub loop-w-init : goal.loop-w-init
loop-w-init c = join-begun _ _ _ _

pub loop-w-preserved : goal.loop-w-preserved
loop-w-preserved c =
    let l = c.loop-w in
    rw c.join_word.ensures (join_more _ _ _ _ _ (omega (arith, c.requires.0, l.invariant.1)) c.loop-w-test.true _ l.invariant)

pub returns : goal.returns
returns c =
    let l = c.loop-w in
    let e : l.w ≡ 4 = omega arith in
    join-done _ _ _ _ _ _ c.row_at-row.ensures (rw e at l.invariant)
