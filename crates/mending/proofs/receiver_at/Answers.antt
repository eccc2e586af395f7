-- A node with figures receives.
use mathlib.Core.Path.{ap, ◌∙◌}
use Rattle.filter.proofs.Laws.{receives-figures}
use Rattle.records.specs.declared.Record.{Record}
use Rattle.pairs.specs.declared.Side.{Side}
use Rattle.mending.proofs.receiver_at.Goals as goal

pub returns : goal.returns
returns c = (
  record {
    held = record { below = c.requires; is = c.node_at.ensures };
    receives = receives-figures 3 c.args.w.now.balances _ (λ e. c.if-figures-eq0.false ((rw c.number.ensures at c.figures.ensures) ∙ e));
  },
  ap side c.node_at.ensures,
)
  where
    side : Record → Side
    side r = record { number = c.args.i; node = r }
