-- The test is the definition's, by what the two calls answer.
use Rattle.fields.proofs.unused_zero.Goals as goal

pub returns : goal.returns
returns c = simp (c.fields_zero.ensures, c.rest_zero.ensures)
