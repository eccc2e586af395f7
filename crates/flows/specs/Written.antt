-- A table written out again with other rows (02, request iv): its rows as bytes, and its new word sum.
use Rattle.std.specs.Prelude.{ℕ, zero, suc, ◌+◌, ◌*◌, ◌-◌, ◌/◌, ◌%◌, ◌^◌, List, [], ◌∷◌, ◌++◌, length, take, drop}
use Rattle.laws.specs.Search.{sum}
use Rattle.laws.specs.Lists.{one}
use Rattle.wire.specs.Numbers.{u32_at, sealed}
use Rattle.model.specs.Mend.{Rows}
use Rattle.layout.specs.declared.Sizes.{Sizes}
use Rattle.layout.specs.Table.{balance_at}

-- "Row v has bit o (byte o / 8, weight 2^(o mod 8))", in "rows of 32 bytes": byte i of all rows
unfoldable pub row_byte : Rows → ℕ → ℕ
row_byte r i = sum 8 λ k. 2 ^ k * one (r (i / 32) (8 * (i % 32) + k))

-- the first n bytes of the rows
unfoldable pub row_bytes : ℕ → Rows → List ℕ
row_bytes zero r = []
row_bytes (suc n) r = row_bytes n r ++ (row_byte r n ∷ [])

-- table s with rows r: the rows, then what follows the rows of s, then the word sum of all that, and the letters of s
abbrev pub rewritten : Sizes → Rows → List ℕ → List ℕ
rewritten z r s = sealed (row_bytes (balance_at z 0) r ++ drop (balance_at z 0) (take (length s - 8) s)) (u32_at s (length s - 4))
