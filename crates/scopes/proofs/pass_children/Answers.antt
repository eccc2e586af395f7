-- `scopes::pass_children` meets its contract: a node has at most two children, and the first pass leaves the parent's own row,
-- since a child lies above its parent.
use mathlib.Core.Path.{sym, ◌∙◌}
use native.Mathlib.Omega.{arith}
use Rattle.scopes.proofs.Table.{left-fits, right-fits, handed-down}
use Rattle.scopes.proofs.pass_children.Goals as goal

pub pass_if-requires : goal.pass_if-requires
pass_if-requires c =
    rw c.continues.ensures
    (let x = c.args in
    left-fits x.reach.now x.j x.r c.requires.by_index)

pub pass_if-requires-2 : goal.pass_if-requires-2
pass_if-requires-2 c e =
    let x = c.args in
    let f = right-fits x.reach.now x.j x.r c.requires.by_index (sym c.branches.ensures ∙ e) in
    let l = c.pass_if.auto.reach in
    (f.0, omega arith)

pub returns : goal.returns
returns c =
    let x = c.args in
    rw (c.pass_if-2.ensures, c.branches.ensures)
    (rw c.pass_if.ensures
    (rw c.continues.ensures
    (handed-down x.reach.now x.j x.r c.requires.by_index c.bound_by-bound.result c.bound_by-bound.ensures)))
