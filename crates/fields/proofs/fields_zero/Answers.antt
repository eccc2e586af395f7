-- The tests by name are the definition's by number.
use Rattle.records.proofs.KindLaws.{stop-kind, new-kind, par-kind, choice-kind, agent-kind}
use Rattle.fields.proofs.fields_zero.Goals as goal

pub returns : goal.returns
returns c =
    let r = c.args.r in
    rw (
      c.is_stop.ensures,
      c.is_par.ensures,
      c.is_choice.ensures,
      c.is_new.ensures,
      c.is_agent.ensures,
      ← stop-kind r,
      ← par-kind r,
      ← choice-kind r,
      ← new-kind r,
      ← agent-kind r,
    )
