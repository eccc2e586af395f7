-- The eight bytes are those that the definition names.
use Rattle.wire.proofs.Laws.{number_8}
use Rattle.wire.proofs.u64_at.Goals as goal

pub returns : goal.returns
returns c = cc (number_8 c.args.s.now c.args.at)
