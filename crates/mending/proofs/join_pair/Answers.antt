-- What is there already is not joined again.
use Rattle.mending.proofs.Growth.{sent-there}
use Rattle.mending.proofs.join_pair.Goals as goal

pub returns-then-sent_already : goal.returns-then-sent_already
returns-then-sent_already c = sent-there _ _ _ _ (c.sent_already.ensures.0 c.if-sent_already.true)
