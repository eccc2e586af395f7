-- The free names are worked out; the room for an environment holds nothing.
use Rattle.engine.proofs.Begun.{names-bare}
use Rattle.engine.proofs.start.Goals as goal

pub start_with-requires : goal.start_with-requires
start_with-requires c = names-bare _ c.requires.0.formed.few_names
