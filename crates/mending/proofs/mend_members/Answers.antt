-- What live senders of the set send is in every choice of rows, and once it is in the parameters' rows, none of their pairs breaks the rule without a
-- noted name.
use native.Mathlib.Omega.{arith}
use Rattle.arrays.proofs.Agents.{small-arity}
use Rattle.pairs.specs.Pairs.{Given}
use Rattle.pairs.specs.Weighing.{beside}
use Rattle.pairs.proofs.Beside.{given-beside}
use Rattle.mending.specs.Growing.{RuleThree}
use Rattle.mending.proofs.Growth.{grew_by}
use Rattle.mending.proofs.Noting.{asked-begun, gained-asked, sent-noted}
use Rattle.mending.proofs.Skipping.{channel-there}
use Rattle.mending.proofs.Along.{held_at}
use Rattle.mending.proofs.mend_members.Goals as goal
use Rattle.mending.proofs.mend_members.Goals.{Start}

given : (c : Start) → Given (beside c.args.w.now c.args.so_far.now.rows)
given c = given-beside c.args.w.now c.args.so_far.now.rows (omega arith)

pub join_args-requires : goal.join_args-requires
join_args-requires c =
    let r = c.requires.receiver.0 in
    ((channel-there (given (goal.at.join_args-requires c).Start) r.held r.receives).1, r.held)

pub add_args-requires : goal.add_args-requires
add_args-requires c = small-arity c.args.w.now.is_weighed.read c.requires.receiver.0.held

pub returns-clause-grew : goal.returns-clause-grew
returns-clause-grew c =
    let S = beside c.args.w.now c.args.so_far.now.rows in
    let r = c.requires.receiver.0 in
    grew_by c.add_args.ensures.grew (RuleThree S)
    (gained-asked (given (goal.at.returns-clause-grew c).Start) r.held r.receives c.join_members.ensures.gained
    (asked-begun S c.args.p c.join_args.ensures))

pub returns-clause-noted : goal.returns-clause-noted
returns-clause-noted c chosen sets linked j m =
    let S = beside c.args.w.now c.args.so_far.now.rows in
    let r = c.requires.receiver.0 in
    sent-noted (given (goal.at.returns-clause-noted c).Start) r.held r.receives (held_at S j m.0) _ c.add_args.ensures.grew
    (c.join_members.ensures.sends chosen sets linked j m) c.add_args.ensures.takes
