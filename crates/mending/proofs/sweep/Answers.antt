-- What large sets settle, and the rest by small ones.
use Rattle.senders.proofs.Laws.{none-vacant}
use Rattle.mending.proofs.Growth.{grew_trans}
use Rattle.mending.proofs.sweep.Goals as goal

pub sweep_large-requires : goal.sweep_large-requires
sweep_large-requires c = none-vacant

pub returns-in-Some-clause-grew : goal.returns-in-Some-clause-grew
returns-in-Some-clause-grew c = grew_trans c.sweep_large.ensures.grew c.sweep_small.ensures.grew
