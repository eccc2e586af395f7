-- What is sent decides, where the channel is not marked.
use mathlib.Core.Path.{sym, ◌∙◌}
use Rattle.senders.proofs.Laws.{any-told}
use Rattle.senders.proofs.sends_by.Goals as goal

pub returns-else-is_marked : goal.returns-else-is_marked
returns-else-is_marked c =
    rw (sym c.sends.ensures ∙ c.if-sends.true, sym c.is_marked.ensures ∙ c.if-is_marked.false) (any-told _ _ c.sends_marked.ensures)
