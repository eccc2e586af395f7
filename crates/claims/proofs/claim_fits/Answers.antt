-- The tests are the definition's.
use mathlib.Core.Path.{ap, ◌∙◌}
use Rattle.model.specs.Tree.{is_agent}
use Rattle.claims.proofs.claim_fits.Goals as goal

pub returns : goal.returns
returns c = rw (c.is_agent.ensures ∙ ap is_agent c.node_or_stop.ensures)
