-- By what the step promises.
use Rattle.handover_c.proofs.Replies.{step-answer, steps}
use Rattle.handover_c.proofs.handover_step.Goals as goal

pub pack_step-requires : goal.pack_step-requires
pack_step-requires c = step-answer _ _ _ _ _ _ _ _ c.step-answer.ensures

pub returns : goal.returns
returns c = steps _ _ _ _ _ _ _ _ c.step-answer.ensures _ c.pack_step.ensures
