-- `frees::used_by` meets its contract: a row without marks, then the channel of an agent, then what an out sends, are what the record uses.
use Prim.Native.Nat.{ℕ}
use mathlib.Core.Path.{refl, sym, ap, ◌∙◌}
use mathlib.Core.Bool.{Bool, ◌&&◌, ◌||◌}
use mathlib.Core.List.{List}
use lib.Dec.{eqb}
use lib.ListN.{replicate}
use Rattle.laws.specs.Lists.{has}
use Rattle.marks.specs.Marks.{marked}
use Rattle.marks.proofs.Laws.{marked-none, marked_more}
use Rattle.model.specs.Tree.{is_agent}
use Rattle.model.specs.Memory.{is_out}
use Rattle.records.specs.Record.{args_of, node_of}
use Rattle.frees.proofs.Laws.{used-of}
use Rattle.frees.proofs.used_by.Goals as goal

pub returns : goal.returns
returns c v h =
    let r = c.args.r in
    (rw c.sends.ensures at (c.mark_args.ensures v h))
    ∙ ap (λ (b : Bool). b || (is_out (node_of r) && has (args_of r) v))
    (ap (λ (row : List ℕ). marked row 0 v)
    (rw c.is_agent.ensures at c.mark_if.ensures)
    ∙ marked_more (replicate 4 0) (is_agent (node_of r)) r.name v refl c.requires
    ∙ ap (λ (b : Bool). b || (is_agent (node_of r) && eqb v r.name)) (marked-none 4 0 v))
    ∙ sym (used-of r v)
