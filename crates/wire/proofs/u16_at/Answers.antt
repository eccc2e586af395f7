-- The two bytes are those that the definition names.
use Rattle.wire.proofs.Laws.{number_2}
use Rattle.wire.proofs.u16_at.Goals as goal

pub returns : goal.returns
returns c = cc (number_2 c.args.s.now c.args.at)
