-- By what the walk promises.
use borrow.Author.Rules.{rules}
use Rattle.handover_c.proofs.Replies.{walk-answer, walks}
use Rattle.handover_c.proofs.handover_walk.Goals as goal

pub pack_walk-requires : goal.pack_walk-requires
pack_walk-requires c = walk-answer _ _ _ _ (search rules) _ _ _ c.walk-answer.ensures

pub returns : goal.returns
returns c = walks _ _ _ _ (search rules) _ _ _ c.walk-answer.ensures _ c.pack_walk.ensures
