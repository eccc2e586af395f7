-- The entry is counted up; else it lies past the end and is none, or `on` is false.
use Rattle.std.proofs.Common.{sym, add-zero}
use Rattle.laws.specs.Lists.{one}
use Rattle.counts.proofs.Laws.{grown-set, grown-past}
use Rattle.counts.proofs.add_if.Goals as goal
use Rattle.counts.proofs.add_if.Goals.{else-on-via-then-on+else-at-table, else-on-via-else-on}

pub returns-then-at-table : goal.returns-then-at-table
returns-then-at-table c = rw c.if-on.true (grown-set c.args.table.now c.args.at)

pub returns-else-on : goal.returns-else-on
unfolding one
returns-else-on c v l =
    elim c.else-on.branch [
      | else-on-via-then-on+else-at-table w ↦ rw w.if-on.true (grown-past c.args.table.now c.args.at w.if-at-table.false v l)
      | else-on-via-else-on w ↦ rw w.if-on.false (sym (add-zero _))
    ]
