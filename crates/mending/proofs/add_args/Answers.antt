use borrow.Author.Count.{below_none}
use native.Mathlib.Omega.{arith}
use Rattle.mending.proofs.Growth.{grew_same, taken_more}
use Rattle.mending.proofs.add_args.Goals as goal

pub loop-n-init : goal.loop-n-init
loop-n-init c = (grew_same _ _ _, below_none _)

pub loop-n-preserved : goal.loop-n-preserved
loop-n-preserved c =
    let l = c.loop-n in
    let x = c.args in
    taken_more x.p.arity x.p.args x.sent.now _ _ l.n l.invariant c.loop-n-test.true (rw c.from.ensures at c.add_row.ensures)
    (omega (arith, l.invariant.0.marks)) (omega arith)
