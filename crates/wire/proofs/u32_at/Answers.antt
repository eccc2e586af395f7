-- The four bytes are those that the definition names.
use Rattle.wire.proofs.Laws.{number_4}
use Rattle.wire.proofs.u32_at.Goals as goal

pub returns : goal.returns
returns c = cc (number_4 c.args.s.now c.args.at)
