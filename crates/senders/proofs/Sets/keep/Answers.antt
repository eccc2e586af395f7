-- The mark, the channel's row and the figures are joined, each to lists that only grow.
use Prim.Native.Nat.{◌/◌, ◌<◌}
use mathlib.Core.Path.{◌≡◌, ap, ◌∙◌}
use mathlib.Core.Bool.{true}
use lib.ListN.{length}
use Rattle.marks.specs.Marks.{mark_if}
use Rattle.marks.proofs.Laws.{mark_if-length, join-adds}
use Rattle.senders.specs.Sets.{arity_mark}
use Rattle.senders.proofs.Laws.{rows-trans, rows-joined, rows-keep, mark-keeps, mark-adds}
use native.Mathlib.Omega.{arith}
use Rattle.senders.proofs.Sets.keep.Goals as goal
use Rattle.senders.proofs.Sets.keep.Goals.{After-mark_if, Start}

-- the list with the mark
marked-is : (c : After-mark_if) → let x = c.args in
    c.mark_if.new.row ≡ mark_if x.self.now.arities true (arity_mark x.g x.q.node.arity)
marked-is c = rw c.arity_mark.ensures at c.mark_if.ensures

-- the mark of its arity has a place
fits : (c : Start) → let x = c.args in arity_mark x.g x.q.node.arity / 64 < length x.self.now.arities
fits c = omega (arith, c.requires.room.0.arities, c.requires.room.1, c.requires.asked.1.sent.few)

pub returns-clause-grown : goal.returns-clause-grown
returns-clause-grown c =
    let mark = marked-is (goal.at.returns-clause-grown c).After-mark_if in
    let g = c.join_figures.ensures.grown.0 in (
      record {
        needs = g.needs;
        unions = rows-trans (rows-joined c.join.ensures) g.unions;
        size = g.size ∙ ap length mark ∙ mark_if-length _ _ _;
        arities = λ o e. g.arities o (rw mark (mark-keeps _ _ (fits (goal.at.returns-clause-grown c).Start) o e));
      },
      c.join_figures.ensures.grown.1,
    )

pub returns-clause-covers : goal.returns-clause-covers
returns-clause-covers c bounds =
    let mark = marked-is (goal.at.returns-clause-covers c).After-mark_if in
    let g = c.join_figures.ensures.grown.0 in record {
      arity = g.arities _ (rw mark (mark-adds _ _ (fits (goal.at.returns-clause-covers c).Start)));
      channel = rows-keep _ _ _ (join-adds _ _ _ _ _ c.join.ensures) g.unions;
      sent = c.join_figures.ensures.kept.0;
      needs = c.join_figures.ensures.kept.1;
    }
