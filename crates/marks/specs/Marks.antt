-- Rows of marks: one bit for each of 256 names, 64 to a word, four words to a row.
use Rattle.std.specs.Prelude.{ℕ, ◌+◌, ◌*◌, ◌/◌, ◌%◌, ◌^◌, ◌<◌, ◌≡◌, Bool, true, false, not, ◌&&◌, ◌||◌, List, eqb, length, get_or, set}
use Rattle.std.specs.Int.Bits.{bit_or}
use Rattle.laws.specs.Search.{any, every}
use Rattle.laws.specs.Bits.{bit}

-- where word w of row u stands in a list of rows
abbrev pub word_at : ℕ → ℕ → ℕ
word_at u w = 4 * u + w

-- the list has row u
abbrev pub HasRow : List ℕ → ℕ → Type 0
HasRow rows u = word_at u 3 < length rows

-- name v is marked in row u
unfoldable pub marked : List ℕ → ℕ → ℕ → Bool
marked rows u v = bit (get_or rows (word_at u (v / 64)) 0) (v % 64)

-- row 0 with one name more where the test is true
unfoldable pub mark_if : List ℕ → Bool → ℕ → List ℕ
mark_if row true v = set row (v / 64) (bit_or (get_or row (v / 64) 0) (2 ^ (v % 64)))
mark_if row false v = row

-- word w of two rows: they have a bit in common; every bit of the first is a bit of the second
unfoldable pub words_share : List ℕ → ℕ → List ℕ → ℕ → ℕ → Bool
words_share s u t v w = any 64 λ k. bit (get_or s (word_at u w) 0) k && bit (get_or t (word_at v w) 0) k

unfoldable pub word_inside : List ℕ → ℕ → List ℕ → ℕ → ℕ → Bool
word_inside s u t v w = every 64 λ k. not (bit (get_or s (word_at u w) 0) k) || bit (get_or t (word_at v w) 0) k

-- some name is marked in both rows; every name marked in the first row is marked in the second
unfoldable pub share : List ℕ → ℕ → List ℕ → ℕ → Bool
share s u t v = any 256 λ o. marked s u o && marked t v o

unfoldable pub inside : List ℕ → ℕ → List ℕ → ℕ → Bool
inside s u t v = every 256 λ o. not (marked s u o) || marked t v o

-- row 0 of a list has the marks of row u of another
abbrev pub Copied : List ℕ → ℕ → List ℕ → Type 0
Copied rows u row = (o : ℕ) → o < 256 → marked row 0 o ≡ marked rows u o

-- word w of row u with the bits of word w of row v of another list
abbrev pub join_word : List ℕ → ℕ → List ℕ → ℕ → ℕ → List ℕ
join_word s u t v w = set s (word_at u w) (bit_or (get_or s (word_at u w) 0) (get_or t (word_at v w) 0))

-- row u holds what it held and the marks of row v of another list; every other row is as it was
pub record Joined (before after : List ℕ) (u : ℕ) (from : List ℕ) (v : ℕ) : Type 0 where
  pub rows : (x o : ℕ) → o < 256 → marked after x o ≡ marked before x o || (eqb x u && marked from v o)
  pub size : length after ≡ length before
