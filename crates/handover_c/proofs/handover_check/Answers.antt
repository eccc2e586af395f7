-- By what the checker promises.
use Rattle.handover_c.proofs.Verdicts.{verdict-fits, checks}
use Rattle.handover_c.proofs.handover_check.Goals as goal

pub pack_check-requires : goal.pack_check-requires
pack_check-requires c = verdict-fits _ _ _ c.check.ensures

pub returns : goal.returns
returns c = checks _ _ _ c.check.ensures _ c.pack_check.ensures
