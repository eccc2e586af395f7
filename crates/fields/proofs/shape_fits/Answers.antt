-- The agents are the kinds from 4 on.
use Rattle.records.proofs.KindLaws.{agent-kind}
use Rattle.fields.proofs.shape_fits.Goals as goal

pub returns : goal.returns
returns c = rw (c.is_named.ensures, c.is_agent.ensures, ← agent-kind c.args.r)
