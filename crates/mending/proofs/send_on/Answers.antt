-- What live senders send to p is asked of a receiver that hears what p does.
use native.Mathlib.Omega.{arith}
use Rattle.arrays.proofs.Agents.{small-arity}
use Rattle.pairs.specs.Weighing.{beside}
use Rattle.pairs.proofs.Beside.{given-beside}
use Rattle.mending.specs.Growing.{RuleThree}
use Rattle.mending.proofs.Growth.{grew_by}
use Rattle.mending.proofs.Noting.{only-asked}
use Rattle.mending.proofs.send_on.Goals as goal

pub add_args-requires : goal.add_args-requires
add_args-requires c = small-arity c.args.w.now.is_weighed.read c.requires.receiver.1

pub returns-then-hears : goal.returns-then-hears
returns-then-hears c =
    let x = c.args in
    let rows = x.so_far.now.rows in
    grew_by c.add_args.ensures.grew (RuleThree (beside x.w.now rows))
    (only-asked (given-beside x.w.now rows (omega arith)) c.requires.receiver.1 (c.hears.ensures c.if-hears.true) x.sent.now c.requires.only)
