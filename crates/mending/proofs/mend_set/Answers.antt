-- A set that need not be looked at, and the look.
use mathlib.Core.Path.{sym, ap, ◌∙◌}
use native.Mathlib.Omega.{arith}
use Rattle.pairs.specs.Pairs.{Given}
use Rattle.pairs.specs.Weighing.{beside}
use Rattle.pairs.proofs.Beside.{given-beside}
use Rattle.senders.specs.Sets.{sends_by}
use Rattle.mending.proofs.Skipping.{channel-there, clear-noted, noted_of}
use Rattle.mending.proofs.mend_set.Goals as goal
use Rattle.mending.proofs.mend_set.Goals.{Start}

given : (c : Start) → Given (beside c.args.w.now c.args.so_far.now.rows)
given c = given-beside c.args.w.now c.args.so_far.now.rows (omega arith)

pub set_clear-requires : goal.set_clear-requires
set_clear-requires c =
    let r = c.requires.receiver.0 in
    let there = channel-there (given (goal.at.set_clear-requires c).Start) r.held r.receives in
    (c.requires.receiver.1, there.0, there.1)

pub returns-then-set_clear-clause-noted : goal.returns-then-set_clear-clause-noted
returns-then-set_clear-clause-noted c chosen k q hq by of =
    let e = sym c.set_clear.ensures ∙ c.if-set_clear.true in
    let r = c.requires.receiver.0 in
    clear-noted (given (goal.at.returns-then-set_clear-clause-noted c).Start) r.held r.receives k hq by (rw of e)

pub returns-clause-noted : goal.returns-clause-noted
returns-clause-noted c chosen k q hq by of =
    let l = c.mend_members.new.so_far in
    noted_of (beside c.args.w.now l.rows) l.names c.args.p q hq
    (c.mend_members.ensures.noted chosen k.gathered.sets k.gathered.linked q.number
    (hq.below, ap (λ r. sends_by chosen r) (sym hq.is) ∙ by, of))
