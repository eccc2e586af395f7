-- The tests, one by one.
use mathlib.Core.Path.{sym, ◌∙◌}
use mathlib.Core.Bool.{◌&&◌}
use Rattle.laws.proofs.Search.{and_split, and-join}
use Rattle.fields.specs.Fields.{shape_fits, fields_zero, children_fit}
use Rattle.scans.proofs.agent_fits.Goals as goal

pub one_child_fits-requires : goal.one_child_fits-requires
one_child_fits-requires c = c.requires.2

pub returns : goal.returns
returns c e =
    let x = c.args in
    let s = and_split ((c.shape_fits.result && c.one_child_fits.result) && c.rest_zero.result) c.is_marked.result e in
    let f = and_split (c.shape_fits.result && c.one_child_fits.result) c.rest_zero.result s.0 in
    let g = and_split c.shape_fits.result c.one_child_fits.result f.0 in
    let one = and_split (fields_zero x.r) (children_fit x.m x.i x.r) (sym c.one_child_fits.ensures ∙ g.1) in
    (and-join (and-join (sym c.shape_fits.ensures ∙ g.0) one.0) one.1, c.rest_zero.ensures f.1, sym c.is_marked.ensures ∙ s.1)
