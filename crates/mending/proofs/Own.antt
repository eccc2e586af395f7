-- Own marks, name after name.
use Prim.Native.Nat.{ℕ, ◌+◌, ◌<◌}
use mathlib.Core.Path.{◌≡◌, ap, ◌∙◌}
use mathlib.Core.Bool.{Bool, ◌&&◌, ◌||◌, and_comm}
use mathlib.Core.List.{List}
use lib.Dec.{eqb, ltb}
use lib.ListN.{replicate, length-replicate}
use Rattle.laws.proofs.Search.{below_or}
use Rattle.marks.specs.Marks.{marked, mark_if, Joined}
use Rattle.marks.proofs.Laws.{marked-none, marked_more}
use Rattle.model.specs.Tree.{Array, is_new}
use Rattle.mending.specs.Growing.{OwnMarked}

-- the row that is joined
own_row : (on : Bool) (v y : ℕ) → v < 256 → marked (mark_if (replicate 4 0) on v) 0 y ≡ on && eqb y v
own_row on v y h = marked_more (replicate 4 0) on v y (length-replicate {A = ℕ} 4 0) h ∙ ap (λ (b : Bool). b || (on && eqb y v)) (marked-none 4 0 y)

pub own-more : (a : Array) (n : ℕ) (rows₀ rows rows' : List ℕ) (on : Bool) → n < 256 → on ≡ is_new a n → OwnMarked a n rows₀ rows
    → Joined rows rows' n (mark_if (replicate 4 0) on n) 0 → OwnMarked a (n + 1) rows₀ rows'
own-more a n rows₀ rows rows' on small new h j = record {
  size = j.size ∙ h.size;
  is = λ v o l.
      j.rows v o l
      ∙ ap (λ (b : Bool). b || (eqb v n && marked (mark_if (replicate 4 0) on n) 0 o)) (h.is v o l)
      ∙ ap (λ (b : Bool). (marked rows₀ v o || (ltb v n && (eqb o v && is_new a v))) || (eqb v n && b))
      (own_row on n o small ∙ and_comm on (eqb o n) ∙ ap (λ (b : Bool). eqb o n && b) new)
      ∙ below_or (marked rows₀ v o) v n (λ u. eqb o u && is_new a u);
}
