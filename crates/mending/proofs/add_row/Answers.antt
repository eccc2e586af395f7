-- A row that is contained already adds nothing.
use mathlib.Core.Path.{sym, ◌∙◌}
use Rattle.mending.proofs.Growth.{added_none}
use Rattle.mending.proofs.add_row.Goals as goal

pub returns-then-contained : goal.returns-then-contained
returns-then-contained c = added_none _ _ _ _ _ (sym c.contained.ensures ∙ c.if-contained.true)
