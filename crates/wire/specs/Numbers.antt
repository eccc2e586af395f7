-- Little-endian numbers in a list of bytes, and the word sum of a file (01, "The array file").
use Rattle.std.specs.Prelude.{ℕ, zero, suc, ◌+◌, ◌*◌, ◌/◌, ◌%◌, ◌^◌, List, [], ◌∷◌, ◌++◌, length, slice_index}

-- the 16-bit number at i
unfoldable pub u16_at : List ℕ → ℕ → ℕ
u16_at s i = slice_index s i + 256 * slice_index s (i + 1)

-- the 32-bit number at i
unfoldable pub u32_at : List ℕ → ℕ → ℕ
u32_at s i = slice_index s i + 256 * slice_index s (i + 1) + 65536 * slice_index s (i + 2) + 16777216 * slice_index s (i + 3)

-- the 64-bit number at i
unfoldable pub u64_at : List ℕ → ℕ → ℕ
u64_at s i = u32_at s i + 4294967296 * u32_at s (i + 4)

-- "The word sum adds all 32-bit words before it and wraps at 2^32": the first n words
unfoldable pub word_sum : List ℕ → ℕ → ℕ
word_sum s zero = 0
word_sum s (suc n) = (word_sum s n + u32_at s (4 * n)) % 2 ^ 32

-- ---- written

-- a 16-bit and a 32-bit number as bytes, the lowest first
abbrev pub le16 : ℕ → List ℕ
le16 n = n % 256 ∷ n / 256 % 256 ∷ []

abbrev pub le32 : ℕ → List ℕ
le32 n = n % 256 ∷ n / 256 % 256 ∷ n / 65536 % 256 ∷ n / 16777216 % 256 ∷ []

-- a file's end: the word sum of what comes before it, its first n bytes, and the letters
abbrev pub seal_of : List ℕ → ℕ → ℕ → List ℕ
seal_of s n letters = le32 (word_sum s (n / 4)) ++ le32 letters

-- a file with its end
abbrev pub sealed : List ℕ → ℕ → List ℕ
sealed s letters = s ++ seal_of s (length s) letters
