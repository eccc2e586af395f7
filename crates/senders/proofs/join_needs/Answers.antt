use Prim.Native.Nat.{◌≤◌, ◌<◌}
use native.Mathlib.Nat.{le_trans}
use lib.ListN.{length, set}
use borrow.Author.Count.{below_more}
use Rattle.loads.specs.Loads.{entry_index, load_in}
use Rattle.pairs.specs.Pairs.{need_of}
use Rattle.senders.proofs.Laws.{needs-trans, needs-set, entry_here}
use native.Mathlib.Omega.{arith}
use Rattle.senders.proofs.join_needs.Goals as goal
use Rattle.senders.proofs.join_needs.Goals.{After-entry-at}

-- balance k has an entry of set g
there : (c : After-entry-at) → entry_index c.args.g c.loop-k.k < length c.loop-k.needs
there c =
    let p = c.requires in
    omega (arith, p.1, p.2.few, c.loop-k.invariant.size, c.loop-k-test.true)

pub greater-requires : goal.greater-requires
greater-requires c = (rw c.entry-at.ensures (c.loop-k.invariant.grow.half c.requires.0 _ _), omega (arith, c.need-need.ensures.1))

pub loop-k-preserved : goal.loop-k-preserved
loop-k-preserved c =
    let x = c.args in
    let l = c.loop-k in
    let fits = there (goal.at.loop-k-preserved c).After-entry-at in
    let before = rw c.entry-at.ensures at c.greater.ensures.0 in
    let grow = needs-set l.needs x.g l.k c.greater.result fits before c.greater.ensures.2 in
    let need = rw c.need-need.ensures.0 at c.greater.ensures.1 in
    rw c.entry-at.ensures record {
      size = omega (arith, grow.size);
      grow = needs-trans l.invariant.grow grow;
      kept =
          below_more
          (λ j. need_of x.loads.now x.q.number x.q.node.left j ≤ load_in (set l.needs (entry_index x.g l.k) c.greater.result) x.g j) l.k
          (λ j h. le_trans (l.invariant.kept j h) (grow.more _ j))
          (rw (entry_here l.needs x.g l.k c.greater.result fits before c.greater.ensures.2) need);
    }
