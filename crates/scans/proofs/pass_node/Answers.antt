-- By its kind.
use Rattle.std.proofs.Common.{sym, ◌∙◌}
use Rattle.scans.proofs.pass_node.Goals as goal

pub pass_agent-requires : goal.pass_agent-requires
pass_agent-requires c = record { ready = c.requires.0; agent = (c.requires.1, sym c.is_agent.ensures ∙ c.if-is_agent.true) }

pub pass_other-requires : goal.pass_other-requires
pass_other-requires c = record { ready = c.requires.0; no_agent = (c.requires.1, sym c.is_agent.ensures ∙ c.if-is_agent.false) }
