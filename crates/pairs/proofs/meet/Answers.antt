-- Both sides are agents, so their channels have rows.
use mathlib.Core.Path.{sym, ◌∙◌}
use Rattle.records.proofs.KindLaws.{sender-is}
use Rattle.pairs.proofs.meet.Goals as goal

pub shares-requires : goal.shares-requires
shares-requires c =
    (c.requires.1 c.requires.0, c.requires.2 (sender-is c.args.q.node (sym c.sends.ensures ∙ c.if-p-q.true.0)).0)
