-- The bit read is the definition's.
use borrow.Author.Tests.{eq-eqb, ne_eqb}
use Rattle.model.specs.Calculus.{choices_of}
use Rattle.unfolds.proofs.chosen.Goals as goal

pub returns-then-choices-i-eq1 : goal.returns-then-choices-i-eq1
unfolding choices_of
returns-then-choices-i-eq1 c = rw (eq-eqb _ 1 c.if-choices-i-eq1.true)

pub returns : goal.returns
unfolding choices_of
returns c = rw (ne_eqb _ 1 c.if-choices-i-eq1.false)
