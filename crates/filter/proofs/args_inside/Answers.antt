use mathlib.Core.Path.{sym}
use Prim.Native.Nat.{◌<◌}
use native.Mathlib.Omega.{arith}
use lib.ListN.{get_or}
use Rattle.laws.proofs.Search.{every-zero, every-step}
use Rattle.marks.specs.Marks.{HasRow}
use Rattle.senders.specs.Sets.{sent_row}
use Rattle.filter.proofs.args_inside.Goals as goal
use Rattle.filter.proofs.args_inside.Goals.{In-loop-m}

pub loop-m-init : goal.loop-m-init
loop-m-init c = sym (every-zero _)

-- what the lists have of argument m, seen from the loop's test
there : (c : In-loop-m) → let x = c.args in let m = c.loop-m.m in
    (m < 8) × HasRow x.unions.now (sent_row x.g m) × HasRow x.rows.now (get_or x.r.args m 0)
there c = c.requires.1 c.loop-m.m c.loop-m-test.true

pub sent_row-requires : goal.sent_row-requires
sent_row-requires c = (c.requires.0, (there (goal.at.sent_row-requires c).In-loop-m).0)

pub bounds-args-m : goal.bounds-args-m
bounds-args-m c = omega (arith, (there (goal.at.bounds-args-m c).In-loop-m).0)

pub contained-inside-requires : goal.contained-inside-requires
contained-inside-requires c =
    let rows = there (goal.at.contained-inside-requires c).In-loop-m in
    (rw c.sent_row.ensures rows.1, rw c.from.ensures rows.2)

pub loop-m-preserved : goal.loop-m-preserved
loop-m-preserved c =
    rw (c.loop-m.invariant, c.contained-inside.ensures, c.from.ensures, c.sent_row.ensures) (sym (every-step _ c.loop-m.m))
