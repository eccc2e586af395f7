-- Nothing is spread but what live senders send to p.
use native.Mathlib.Omega.{arith}
use Rattle.pairs.specs.Weighing.{beside}
use Rattle.pairs.proofs.Beside.{given-beside}
use Rattle.mending.proofs.Noting.{gained-only}
use Rattle.mending.proofs.Skipping.{channel-there}
use Rattle.mending.proofs.mend_alike.Goals as goal

pub has_all-requires : goal.has_all-requires
has_all-requires c =
    let x = c.args in
    (channel-there (given-beside x.w.now x.so_far.now.rows (omega arith)) c.requires.receiver.held c.requires.receiver.receives).1

pub spread-requires-clause-only : goal.spread-requires-clause-only
spread-requires-clause-only c = let x = c.args in gained-only (beside x.w.now x.so_far.now.rows) x.p c.join_all.ensures
