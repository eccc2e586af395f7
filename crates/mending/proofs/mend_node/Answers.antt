-- A node without figures asks for nothing, and one that is out of reach or clear is noted.
use mathlib.Core.Path.{ap}
use native.Mathlib.Omega.{arith}
use Rattle.pairs.specs.declared.Side.{Side}
use Rattle.pairs.specs.Weighing.{beside}
use Rattle.pairs.proofs.Beside.{given-beside}
use Rattle.mending.proofs.Along.{held_at}
use Rattle.mending.proofs.Skipping.{channel-there, clear-node, idle-node}
use Rattle.mending.proofs.mend_node.Goals as goal

pub returns-in_default-clause-noted : goal.returns-in_default-clause-noted
returns-in_default-clause-noted c =
    let x = c.args in
    let S = beside x.w.now x.so_far.now.rows in
    idle-node S (held_at S x.i c.requires.below) _ x.scope.now.chosen _ x.scope.now.on c.in_default.ensures

pub receiver_clear-requires : goal.receiver_clear-requires
receiver_clear-requires c =
    let x = c.args in
    let r = c.in-Some.ensures.0 in
    channel-there (given-beside x.w.now x.so_far.now.rows (omega arith)) r.held r.receives

pub returns-then-receiver_clear-clause-noted : goal.returns-then-receiver_clear-clause-noted
returns-then-receiver_clear-clause-noted c =
    let x = c.args in
    clear-node (given-beside x.w.now x.so_far.now.rows (omega arith)) c.in-Some.ensures.0.held x.i
    (ap (λ (p : Side). p.number) c.in-Some.ensures.1) _ x.scope.now.chosen _ x.scope.now.on c.requires.large
    (c.receiver_clear.ensures c.if-receiver_clear.true)
