-- By what the array reader answers.
use Rattle.handover.proofs.Laws.{array-promise}
use Rattle.handover.proofs.read_array.Goals as goal

pub returns : goal.returns
returns c = array-promise _ _ c.read_array.ensures
