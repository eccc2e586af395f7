-- An agent's tests: what else 7 and 8 ask is decided by its kind.
use mathlib.Core.Path.{◌≡◌, refl}
use mathlib.Core.Bool.{Bool, true, false, ◌&&◌}
use lib.Dec.{eqb, ltb}
use Rattle.laws.specs.Lists.{all}
use Rattle.model.specs.Tree.{is_agent}
use Rattle.model.specs.Formed.{children, child_fits}
use Rattle.records.specs.Kinds.{is_stop, is_new_node, is_par, is_choice}
use Rattle.records.proofs.KindLaws.{stop-kind, new-kind, par-kind, choice-kind, agent-kind, agent-is}
use Rattle.fields.specs.Fields.{children_fit}
use Rattle.scans.proofs.one_child_fits.Goals as goal

decided : (a b c : Bool) → (a && b) && c ≡ (((a && true) && b) && true) && (c && true)
decided false b c = refl
decided true false c = refl
decided true true false = refl
decided true true true = refl

pub returns : goal.returns
unfolding is_stop is_new_node is_par is_choice is_agent children_fit all children child_fits
returns c =
    let x = c.args in
    let r = x.r in
    rw (stop-kind r, par-kind r, choice-kind r, new-kind r, agent-kind r, agent-is r c.requires)
    (decided (eqb r.pad 0) (eqb r.right 0) (ltb x.i r.left && ltb r.left x.m))
