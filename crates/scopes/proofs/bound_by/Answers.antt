-- `scopes::bound_by` meets its contract: a row without marks, then the name of a new, then the parameters, are what the record binds.
use Prim.Native.Nat.{ℕ}
use mathlib.Core.Path.{refl, sym, ap, ◌∙◌}
use mathlib.Core.Bool.{Bool, ◌&&◌, ◌||◌}
use mathlib.Core.List.{List}
use lib.Dec.{eqb}
use lib.ListN.{replicate}
use Rattle.records.specs.Record.{node_of}
use Rattle.records.specs.Kinds.{is_new_node}
use Rattle.marks.specs.Marks.{marked}
use Rattle.marks.proofs.Laws.{marked-none, marked_more}
use Rattle.scopes.specs.Scope.{is_param}
use Rattle.scopes.proofs.Laws.{binds-of}
use Rattle.scopes.proofs.bound_by.Goals as goal

pub returns : goal.returns
returns c v h =
    let r = c.args.r in
    (rw c.receives.ensures at (c.mark_args.ensures v h))
    ∙ ap (λ (b : Bool). b || is_param r v)
    (ap (λ (row : List ℕ). marked row 0 v)
    (rw c.is_new.ensures at c.mark_if.ensures)
    ∙ marked_more (replicate 4 0) (is_new_node (node_of r)) r.name v refl c.requires
    ∙ ap (λ (b : Bool). b || (is_new_node (node_of r) && eqb v r.name)) (marked-none 4 0 v))
    ∙ sym (binds-of r v)
