use Rattle.pairs.specs.Weighing.{beside}
use Rattle.mending.proofs.Growth.{grew_trans}
use Rattle.mending.proofs.Noting.{only-grew}
use Rattle.mending.proofs.spread.Goals as goal

pub send_on-requires-clause-only : goal.send_on-requires-clause-only
send_on-requires-clause-only c =
    let x = c.args in
    let l = c.loop-i in
    only-grew (beside x.w.now x.so_far.now.rows) x.p x.sent.now l.so_far.rows l.invariant.more c.requires.only

pub loop-i-preserved : goal.loop-i-preserved
loop-i-preserved c = grew_trans c.loop-i.invariant c.send_on.ensures
