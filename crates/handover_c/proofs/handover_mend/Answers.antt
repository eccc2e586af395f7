-- By what mending promises.
use Rattle.handover_c.proofs.Mends.{mend-answer, mends}
use Rattle.handover_c.proofs.handover_mend.Goals as goal

pub pack_mend-requires : goal.pack_mend-requires
pack_mend-requires c = mend-answer _ _ _ _ _ c.mend-answer.ensures

pub returns : goal.returns
returns c = mends _ _ _ _ _ c.mend-answer.ensures _ c.pack_mend.ensures
