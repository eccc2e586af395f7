-- The test of refusal 19 by rows of marks.
use Prim.Native.Nat.{ℕ, ◌<◌}
use mathlib.Core.Path.{◌≡◌, ap, ap₂}
use mathlib.Core.Bool.{Bool, not, ◌||◌}
use mathlib.Core.List.{List}
use Rattle.laws.specs.Search.{Found, first}
use Rattle.laws.proofs.Search.{first-same, every-same}
use Rattle.marks.specs.Marks.{marked, inside}
use Rattle.model.specs.Tree.{Array, is_new}
use Rattle.model.specs.Formed.{Refusal, refuse}
use Rattle.layout.specs.declared.Sizes.{Sizes}
use Rattle.layout.specs.Table.{row_bit, refusal19}

-- the test of row v by marks: it lies inside the row of the names that news open
abbrev pub check : List ℕ → List ℕ → ℕ → Found Refusal
check rows news v = refuse 19 v (inside rows v news 0)

-- where the marks are right, the tests of all rows are refusal 19
pub rows-checked : (a : Array) (s : List ℕ) (z : Sizes) (rows news : List ℕ)
    → ((v o : ℕ) → v < z.names → o < 256 → marked rows v o ≡ row_bit s z v o) → ((o : ℕ) → marked news 0 o ≡ is_new a o)
    → first z.names (check rows news) ≡ refusal19 a s z
unfolding inside refusal19
rows-checked a s z rows news bits opened =
    first-same z.names _ _
    (λ v h. ap (refuse 19 v) (every-same 256 _ _ (λ o l. ap₂ (λ (x y : Bool). not x || y) (bits v o h l) (opened o))))
