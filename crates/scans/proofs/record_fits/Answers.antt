-- The test is the definition's, by what the calls answer.
use Rattle.scans.proofs.record_fits.Goals as goal

pub returns : goal.returns
returns c = rw (c.shape_fits.ensures, c.fields_zero.ensures, c.children_fit.ensures)
