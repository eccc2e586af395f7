-- The table grows by the left child, then by the right: together by the children of the node.
use native.Mathlib.Omega.{arith}
use Rattle.laws.proofs.Lists.{one-le}
use Rattle.counts.proofs.Laws.{grown-then, grown-below, times-children}
use Rattle.counts.proofs.count_children.Goals as goal

pub add_if-requires : goal.add_if-requires
add_if-requires c = omega (arith, c.requires c.args.r.left)

pub add_if-requires-2 : goal.add_if-requires-2
add_if-requires-2 c =
    let t = c.args.table.now in
    grown-below t c.add_if.new.table c.add_if.auto.table _ c.add_if.ensures 65000 1 65535 c.requires (λ v. one-le _) (omega arith) _

pub returns : goal.returns
returns c v l =
    let x = c.args in
    let left = rw c.continues.ensures at c.add_if.ensures in
    let right = rw c.branches.ensures at c.add_if-2.ensures in
    omega (arith, grown-then x.table.now c.add_if.new.table c.add_if.auto.table _ left c.add_if-2.new.table _ right v l, times-children x.r v)
