-- A row without marks, and one mark.
use mathlib.Core.Path.{refl, ap, ◌∙◌}
use mathlib.Core.Bool.{Bool, true, ◌||◌}
use mathlib.Core.List.{List}
use Prim.Native.Nat.{ℕ}
use lib.Dec.{eqb}
use lib.ListN.{replicate}
use Rattle.marks.specs.Marks.{marked}
use Rattle.marks.proofs.Laws.{marked-none, marked_more}
use Rattle.scans.proofs.name_row.Goals as goal

pub returns : goal.returns
returns c u =
    let v = c.args.v in
    ap (λ (row : List ℕ). marked row 0 u) c.mark_if.ensures
    ∙ marked_more (replicate 4 0) true v u refl c.requires
    ∙ ap (λ (b : Bool). b || eqb u v) (marked-none 4 0 u)
