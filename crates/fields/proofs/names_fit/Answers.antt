-- The tests are the model's by the record's kind: `args_below` answers for the arguments, of which a record has 8 places.
use Rattle.std.proofs.Common.{rules}
use Rattle.fields.proofs.Laws.{names-fit}
use Rattle.fields.proofs.names_fit.Goals as goal

pub returns : goal.returns
returns c = rw (c.is_new.ensures, c.is_agent.ensures, c.args_below.ensures) (names-fit c.args.n c.args.r (search rules))
