-- The free names are worked out, the lists are checked against them, and what is well formed takes its step.
use mathlib.Core.Path.{◌≡◌, refl, sym, ◌∙◌}
use mathlib.Core.Bool.{true}
use Rattle.model.specs.Memory.{formed}
use Rattle.records.specs.Record.{array_of}
use Rattle.lent.specs.Lent.{lent_of}
use Rattle.engine.proofs.Laws.{checked-23, checked-step}
use Rattle.engine.proofs.step.Goals as goal
use Rattle.engine.proofs.step.Goals.{Else-not-lists_formed}

passes : (c : Else-not-lists_formed) → let x = c.args in
    formed (array_of x.array.now.bytes.now x.array.now.trailer) (lent_of x.threads.now x.markers.now x.counts) ≡ true
passes c = sym c.lists_formed.ensures.1 ∙ c.if-not-lists_formed.false

pub returns-then-not-lists_formed : goal.returns-then-not-lists_formed
returns-then-not-lists_formed c = ((checked-23 _ _ _ (sym c.lists_formed.ensures.1 ∙ c.if-not-lists_formed.true), refl, refl), tt)

pub returns : goal.returns
returns c =
    rw (checked-step _ _ _ (passes (goal.at.returns c).Else-not-lists_formed)) c.step_formed.ensures
