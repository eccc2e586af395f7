-- The tests are the model's by the record's kind.
use Rattle.model.specs.Formed.{child_fits}
use Rattle.fields.proofs.Laws.{children-fit}
use Rattle.fields.proofs.children_fit.Goals as goal

pub returns : goal.returns
unfolding child_fits
returns c =
    let x = c.args in
    rw (c.is_stop.ensures, c.branches.ensures) (children-fit x.m x.i x.r)
