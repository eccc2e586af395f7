use native.Mathlib.Omega.{arith}
use Rattle.pairs.specs.Weighing.{beside}
use Rattle.pairs.proofs.Beside.{given-beside}
use Rattle.mending.specs.Growing.{Stale}
use Rattle.mending.proofs.Growth.{grew_trans}
use Rattle.mending.proofs.Skipping.{stale-now, stale-grew, swept-grew, swept-more}
use Rattle.mending.proofs.sweep_large.Goals as goal
use Rattle.mending.proofs.sweep_large.Goals.{After-gather}

-- what was gathered from the rows at the start
gathered : (c : After-gather) → let x = c.args in
    Stale (beside x.w.now x.so_far.now.rows) x.so_far.now.names x.scope.now.chosen c.gather.new.self
gathered c = stale-now (rw c.number.ensures at (c.gather.ensures c.args.w.now.bounds.now))

pub gather-requires-clause-given : goal.gather-requires-clause-given
gather-requires-clause-given c = let w = c.args.w.now in (w.bounds.now, given-beside w c.args.so_far.now.rows (omega arith))

pub settled-requires : goal.settled-requires
settled-requires c = (c.loop-i-test.true, stale-grew (gathered (goal.at.settled-requires c).After-gather) c.loop-i.invariant.grew)

pub returns-then-not-settled-clause-large : goal.returns-then-not-settled-clause-large
returns-then-not-settled-clause-large c =
    stale-grew (stale-grew (gathered (goal.at.returns-then-not-settled-clause-large c).After-gather) c.loop-i.invariant.grew) c.settled.ensures.grew

pub returns-clause-large : goal.returns-clause-large
returns-clause-large c = stale-grew (gathered (goal.at.returns-clause-large c).After-gather) c.loop-i.invariant.grew

pub returns-then-not-settled-clause-grew : goal.returns-then-not-settled-clause-grew
returns-then-not-settled-clause-grew c = grew_trans c.loop-i.invariant.grew c.settled.ensures.grew

pub returns-then-not-settled-clause-swept : goal.returns-then-not-settled-clause-swept
returns-then-not-settled-clause-swept c =
    let x = c.args in
    let l = c.loop-i in
    swept-grew (given-beside x.w.now l.so_far.rows (omega (arith, l.invariant.grew.size))) l.so_far.names x.scope.now.chosen x.scope.now.reach
    x.scope.now.on l.i l.invariant.swept c.settled.ensures.grew

pub loop-i-preserved : goal.loop-i-preserved
loop-i-preserved c =
    let x = c.args in
    let l = c.loop-i in record {
      grew = grew_trans l.invariant.grew c.settled.ensures.grew;
      swept =
          swept-more (given-beside x.w.now l.so_far.rows (omega (arith, l.invariant.grew.size))) l.so_far.names x.scope.now.chosen x.scope.now.reach
          x.scope.now.on l.i l.invariant.swept c.settled.ensures.grew (c.settled.ensures.noted c.if-not-settled.false);
    }
