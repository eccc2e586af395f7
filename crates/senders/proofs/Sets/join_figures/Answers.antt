-- By the rule: one list grows, the other stays.
use mathlib.Core.Path.{refl}
use Rattle.senders.proofs.Laws.{rows_same}
use Rattle.senders.proofs.Sets.join_figures.Goals as goal

pub returns-in-Fourth-clause-grown : goal.returns-in-Fourth-clause-grown
returns-in-Fourth-clause-grown c =
    (record { needs = c.join_needs.ensures.0; unions = rows_same _; size = refl; arities = λ o e. e }, refl)
