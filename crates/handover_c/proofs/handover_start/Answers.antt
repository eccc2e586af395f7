-- By what the start promises.
use Rattle.handover_c.proofs.Replies.{start-answer, starts}
use Rattle.handover_c.proofs.handover_start.Goals as goal

pub pack_start-requires : goal.pack_start-requires
pack_start-requires c = start-answer _ _ _ _ _ c.start-answer.ensures

pub returns : goal.returns
returns c = starts _ _ _ _ _ c.start-answer.ensures _ c.pack_start.ensures
