use native.Mathlib.Omega.{arith}
use Rattle.pairs.proofs.Beside.{given-beside}
use Rattle.senders.proofs.Laws.{none-vacant}
use Rattle.mending.proofs.Growth.{grew_trans}
use Rattle.mending.proofs.Skipping.{stale-now, stale-grew, swept-more}
use Rattle.mending.proofs.sweep_small.Goals as goal

pub gather-requires : goal.gather-requires
gather-requires c =
    let w = c.args.w.now in
    record { given = (w.bounds.now, given-beside w c.args.so_far.now.rows (omega arith)); vacant = none-vacant }

pub mend_node-requires-clause-small : goal.mend_node-requires-clause-small
mend_node-requires-clause-small c =
    stale-grew (stale-now (rw c.number.ensures at (c.gather.ensures c.args.w.now.bounds.now))) c.loop-i.invariant.grew

pub loop-i-preserved : goal.loop-i-preserved
loop-i-preserved c =
    let x = c.args in
    let l = c.loop-i in record {
      grew = grew_trans l.invariant.grew c.mend_node.ensures.grew;
      swept =
          swept-more (given-beside x.w.now l.so_far.rows (omega (arith, l.invariant.grew.size))) l.so_far.names x.scope.now.chosen x.scope.now.reach
          x.scope.now.on l.i l.invariant.swept c.mend_node.ensures.grew c.mend_node.ensures.noted;
    }
