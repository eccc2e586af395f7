-- A node without figures asks for nothing; a receiver that is clear is noted, also after what was sent to it went to all alike.
use mathlib.Core.Path.{◌≡◌, ap}
use native.Mathlib.Omega.{arith}
use Rattle.pairs.specs.declared.Side.{Side}
use Rattle.pairs.specs.Weighing.{beside}
use Rattle.pairs.proofs.Beside.{given-beside}
use Rattle.mending.proofs.Along.{held_at}
use Rattle.mending.proofs.Skipping.{stale-grew, channel-there, clear-node, idle-node}
use Rattle.mending.proofs.settled.Goals as goal
use Rattle.mending.proofs.settled.Goals.{In-Some}

-- the receiver is node i
number : (c : In-Some) → c.in-Some.p.number ≡ c.args.i
number c = ap (λ (p : Side). p.number) c.in-Some.ensures.1

pub returns-in_default-clause-noted : goal.returns-in_default-clause-noted
returns-in_default-clause-noted c e =
    let x = c.args in
    let S = beside x.w.now x.so_far.now.rows in
    idle-node S (held_at S x.i c.requires.0) _ x.scope.now.chosen _ x.scope.now.on c.in_default.ensures

pub receiver_clear-requires : goal.receiver_clear-requires
receiver_clear-requires c =
    let x = c.args in
    let r = c.in-Some.ensures.0 in
    channel-there (given-beside x.w.now x.so_far.now.rows (omega arith)) r.held r.receives

pub returns-then-receiver_clear-clause-noted : goal.returns-then-receiver_clear-clause-noted
returns-then-receiver_clear-clause-noted c e =
    let x = c.args in
    clear-node (given-beside x.w.now x.so_far.now.rows (omega arith)) c.in-Some.ensures.0.held x.i
    (number (goal.at.returns-then-receiver_clear-clause-noted c).In-Some) _ x.scope.now.chosen _ x.scope.now.on c.requires.1
    (c.receiver_clear.ensures c.if-receiver_clear.true)

pub receiver_clear-requires-2 : goal.receiver_clear-requires-2
receiver_clear-requires-2 c =
    let r = c.in-Some.ensures.0 in
    channel-there (given-beside c.args.w.now c.mend_alike.new.so_far.rows (omega (arith, c.mend_alike.ensures.size))) r.held r.receives

pub returns-clause-noted : goal.returns-clause-noted
returns-clause-noted c e =
    let x = c.args in
    let grew = c.mend_alike.ensures in
    clear-node (given-beside x.w.now c.mend_alike.new.so_far.rows (omega (arith, grew.size))) c.in-Some.ensures.0.held x.i
    (number (goal.at.returns-clause-noted c).In-Some) _ x.scope.now.chosen _ x.scope.now.on (stale-grew c.requires.1 grew)
    (c.receiver_clear-2.ensures e)
