-- The bytes of rows: their bits are the rows', and what is written in place of a table's rows makes the table anew.
use Prim.Native.Nat.{ℕ, zero, suc, ◌+◌, ◌*◌, ◌-◌, ◌/◌, ◌%◌, ◌^◌, ◌≤◌, ◌<◌}
use native.Mathlib.Nat.{add-zero, div-one, not-suc-le-zero, le_of_suc-le-suc, eq-or-lt_of_le, pow-suc}
use native.Mathlib.Numerals.{add-one}
use native.Mathlib.Omega.{arith}
use mathlib.Core.Path.{◌≡◌, refl, sym, ap, ap₂, ◌∙◌}
use mathlib.Core.Logic.{⊎_elim}
use mathlib.Core.Bool.{Bool, true, false}
use mathlib.Core.List.{List, [], ◌∷◌, ◌++◌, append_assoc}
use lib.Dec.{eqb}
use lib.ListN.{length, get_or, set, take, drop, length-append, length-drop, take-append-drop, get_or-append}
use lib.Pow.{shr-shr}
use mir.Syntax.{w64}
use Rattle.std.specs.Int.{to_le_bytes}
use lib.Seq.{get_or_at, take_at, drop-append-le, length-take-le, take-suc, get_or-append-add, get_or-drop, get_or-take}
use Rattle.laws.specs.Search.{sum}
use Rattle.laws.specs.Lists.{All, one, put}
use Rattle.laws.specs.Bits.{bit}
use Rattle.laws.proofs.Search.{sum_same}
use Rattle.laws.proofs.Lists.{All-append, All-at, All-drop, All-take, slice_index-All}
use Rattle.laws.proofs.Bits.{bit-low, bit_high, bit-ext}
use Rattle.laws.proofs.Put.{put_front, put-from, set-put, take_put, drop_past, length-put}
use Rattle.wire.specs.Numbers.{u16_at, u32_at, word_sum, le32, seal_of, sealed}
use Rattle.wire.proofs.Written.{seal-is}
use Rattle.marks.specs.Marks.{word_at, marked}
use Rattle.model.specs.Mend.{Rows}
use Rattle.layout.specs.declared.Sizes.{Sizes}
use Rattle.layout.specs.Table.{balance_at, row_bit}
use Rattle.flows.specs.Written.{row_byte, row_bytes, rewritten}

-- ---- a number made of bits

abbrev weighed : (ℕ → Bool) → ℕ → ℕ
weighed f n = sum n (λ k. 2 ^ k * one (f k))

weighed-small : (f : ℕ → Bool) (n : ℕ) → weighed f n < 2 ^ n
unfolding sum one
weighed-small f zero = omega arith
weighed-small f (suc n) = go (f n) (weighed-small f n)
  where
    go : (b : Bool) → weighed f n < 2 ^ n → weighed f n + 2 ^ n * one b < 2 ^ suc n
    go true h = let d = pow-suc 2 n in omega arith
    go false h = let d = pow-suc 2 n in omega arith

bit-one : (b : Bool) → bit (one b) 0 ≡ b
unfolding one
bit-one true = refl
bit-one false = refl

bit-weighed : (f : ℕ → Bool) (n k : ℕ) → k < n → bit (weighed f n) k ≡ f k
unfolding sum
bit-weighed f zero k h = absurd (not-suc-le-zero h)
bit-weighed f (suc n) k h =
    ⊎_elim
    (λ (q : k ≡ n). ap (λ (j : ℕ). bit (weighed f n + 2 ^ n * one (f n)) j) (q ∙ sym (add-zero n))
    ∙ bit_high n (weighed f n) (one (f n)) 0 (weighed-small f n) ∙ bit-one (f n) ∙ ap f (sym q))
    (λ (l : k < n). bit-low n (weighed f n) (one (f n)) k (weighed-small f n) l ∙ bit-weighed f n k l)
    (eq-or-lt_of_le (le_of_suc-le-suc h))

-- ---- a number made of bytes

abbrev Byte : ℕ → Type 0
Byte n = n < 256

le32-small : (n : ℕ) → All Byte (le32 n)
le32-small n = (omega arith, (omega arith, (omega arith, (omega arith, tt))))

-- its bytes are these
four-back : (a b c d : ℕ) → a < 256 → b < 256 → c < 256 → d < 256 → let n = a + 256 * b + 65536 * c + 16777216 * d in
    (n % 256 ≡ a) × (n / 256 % 256 ≡ b) × (n / 65536 % 256 ≡ c) × (n / 16777216 % 256 ≡ d)
four-back a b c d h₀ h₁ h₂ h₃ =
    let n = a + 256 * b + 65536 * c + 16777216 * d in
    let q₁ : n / 256 ≡ b + 256 * c + 65536 * d = omega arith in
    let q₂ : n / 65536 ≡ c + 256 * d = omega arith in
    let q₃ : n / 16777216 ≡ d = omega arith in
    (omega arith, omega arith, omega arith, omega arith)

-- ---- the bytes of rows

row_byte-small : (r : Rows) (i : ℕ) → row_byte r i < 256
unfolding row_byte
row_byte-small r i = weighed-small (λ k. r (i / 32) (8 * (i % 32) + k)) 8

bit-row_byte : (r : Rows) (i k : ℕ) → k < 8 → bit (row_byte r i) k ≡ r (i / 32) (8 * (i % 32) + k)
unfolding row_byte
bit-row_byte r i k h = bit-weighed (λ k. r (i / 32) (8 * (i % 32) + k)) 8 k h

length-row_bytes : (n : ℕ) (r : Rows) → length (row_bytes n r) ≡ n
unfolding row_bytes
length-row_bytes zero r = refl
length-row_bytes (suc n) r = let e = length-row_bytes n r in rw length-append (omega arith)

row_bytes-step : (n : ℕ) (r : Rows) → row_bytes (n + 1) r ≡ row_bytes n r ++ (row_byte r n ∷ [])
unfolding row_bytes
row_bytes-step n r = rw (add-one, row_bytes)

row_bytes-small : (n : ℕ) (r : Rows) → All Byte (row_bytes n r)
unfolding row_bytes
row_bytes-small zero r = tt
row_bytes-small (suc n) r = All-append Byte (row_bytes n r) _ (row_bytes-small n r) (row_byte-small r n, tt)

slice_index-row_bytes : (n : ℕ) (r : Rows) (i : ℕ) → i < n → get_or (row_bytes n r) i 0 ≡ row_byte r i
unfolding row_bytes
slice_index-row_bytes zero r i h = absurd (not-suc-le-zero h)
slice_index-row_bytes (suc n) r i h =
    ⊎_elim
    (λ (q : i ≡ n). get_or_at (row_bytes n r) (row_byte r n) [] 0 i (length-row_bytes n r ∙ sym q) ∙ ap (row_byte r) (sym q))
    (λ (l : i < n). get_or-append (row_bytes n r) _ 0 i (rw length-row_bytes l) ∙ slice_index-row_bytes n r i l)
    (eq-or-lt_of_le (le_of_suc-le-suc h))

-- byte i of rows of marks is byte i % 8 of their word i / 8
marked-at : (rows : List ℕ) (i k : ℕ) → k < 8 → bit (get_or rows (i / 8) 0) (8 * (i % 8) + k) ≡ marked rows (i / 32) (8 * (i % 32) + k)
unfolding marked
marked-at rows i k h =
    let q : i / 8 ≡ word_at (i / 32) ((8 * (i % 32) + k) / 64) = omega arith in
    let o : 8 * (i % 8) + k ≡ (8 * (i % 32) + k) % 64 = omega arith in
    ap₂ (λ (m n : ℕ). bit (get_or rows m 0) n) q o

marked-byte : (rows : List ℕ) (i : ℕ) → get_or rows (i / 8) 0 / 2 ^ (8 * (i % 8)) % 256 ≡ row_byte (marked rows) i
marked-byte rows i =
    let x = get_or rows (i / 8) 0 in
    let y = x / 2 ^ (8 * (i % 8)) in
    let parts : y % 256 + 2 ^ 8 * (y / 256) ≡ y = omega arith in
    bit-ext 8 (y % 256) (row_byte (marked rows) i) (omega arith) (row_byte-small (marked rows) i) (λ k h.
    sym (bit-low 8 (y % 256) (y / 256) k (omega arith) h) ∙ ap (λ (n : ℕ). bit n k) parts
    ∙ ap (λ (n : ℕ). eqb (n % 2) 1) (shr-shr x (8 * (i % 8)) k)
    ∙ marked-at rows i k h ∙ sym (bit-row_byte (marked rows) i k h))

-- ---- written in place

-- one byte more, right after those that are written
put_next : (xs l : List ℕ) (i x : ℕ) → length xs ≡ i → i < length l → set (put 0 xs l) i x ≡ put 0 (xs ++ (x ∷ [])) l
put_next xs l i x e h =
    let at : i ≡ 0 + length xs = omega arith in
    ap (λ (n : ℕ). set (put 0 xs l) n x) at ∙ set-put 0 xs l (omega arith) x (omega arith)

-- a turn of `copy_bytes`
pub byte-copied : (s l : List ℕ) (i : ℕ) → i < length s → length s ≤ length l → set (put 0 (take i s) l) i (get_or s i 0) ≡ put 0 (take (i + 1) s) l
byte-copied s l i h k =
    put_next (take i s) l i (get_or s i 0) (length-take-le i s (omega arith)) (omega arith)
    ∙ ap (λ (t : List ℕ). put 0 t l) (sym (take-suc s i 0 h) ∙ ap (λ (n : ℕ). take n s) (sym (add-one i)))

-- byte k of a word
word-byte : (n k : ℕ) → k < 8 → get_or (to_le_bytes w64 n) k 0 ≡ n / 2 ^ (8 * k) % 256
word-byte n zero h = ap (λ (m : ℕ). m % 256) (sym (div-one n))
word-byte n (suc zero) h = refl
word-byte n (suc (suc zero)) h = refl
word-byte n (suc (suc (suc zero))) h = refl
word-byte n (suc (suc (suc (suc zero)))) h = refl
word-byte n (suc (suc (suc (suc (suc zero))))) h = refl
word-byte n (suc (suc (suc (suc (suc (suc zero)))))) h = refl
word-byte n (suc (suc (suc (suc (suc (suc (suc zero))))))) h = refl
word-byte n (suc (suc (suc (suc (suc (suc (suc (suc k)))))))) h = absurd (omega (arith, h))

-- a turn of `put_rows`
pub byte_put : (rows l : List ℕ) (i : ℕ) → i < length l
    → set (put 0 (row_bytes i (marked rows)) l) i (get_or (to_le_bytes w64 (get_or rows (i / 8) 0)) (i % 8) 0) ≡ put 0 (row_bytes (i + 1) (marked rows)) l
byte_put rows l i h =
    put_next (row_bytes i (marked rows)) l i _ (length-row_bytes i (marked rows)) h
    ∙ ap (λ (n : ℕ). put 0 (row_bytes i (marked rows) ++ (n ∷ [])) l) (word-byte (get_or rows (i / 8) 0) (i % 8) (omega arith) ∙ marked-byte rows i)
    ∙ ap (λ (t : List ℕ). put 0 t l) (sym (row_bytes-step i (marked rows)))

-- what was written before, and is no longer, is gone
put-over : (xs ys l : List ℕ) → length ys ≤ length xs → length xs ≤ length l → put 0 xs (put 0 ys l) ≡ put 0 xs l
put-over xs ys l h k =
    put_front xs (put 0 ys l) ∙ ap (λ (t : List ℕ). xs ++ t) (drop_past 0 ys l (omega arith) (length xs) (omega arith)) ∙ sym (put_front xs l)

-- ---- a table with other rows

module _ (z : Sizes) (r : Rows) (s : List ℕ) (room : balance_at z 0 + 28 ≤ length s) where
  -- all before its word sum
  abbrev pub front : List ℕ
  front = row_bytes (balance_at z 0) r ++ drop (balance_at z 0) (take (length s - 8) s)

  kept : length (take (length s - 8) s) ≡ length s - 8
  kept = length-take-le (length s - 8) s (omega arith)

  length_front : length front ≡ length s - 8
  length_front = let k = kept in rw (length-append, length-row_bytes, length-drop) (omega arith)

  pub length-rewritten : length (rewritten z r s) ≡ length s
  length-rewritten = let e = length_front in rw (length-append front) (omega arith)

  -- a table over whose rows others were written, up to its word sum
  rows-over : (l : List ℕ) → take (length s - 8) (put 0 (row_bytes (balance_at z 0) r) (put 0 s l)) ≡ front
  rows-over l =
      let n = length s - 8 in
      let b = balance_at z 0 in
      let rest = drop n s ++ drop (length s) l in
      let parts : put 0 s l ≡ take n s ++ rest =
      put_front s l ∙ ap (λ (t : List ℕ). t ++ drop (length s) l) (sym (take-append-drop n s)) ∙ append_assoc (take n s) (drop n s) (drop (length s) l) in
      let k = kept in
      ap (take n)
      (put_front (row_bytes b r) (put 0 s l)
      ∙ ap₂ (λ (m : ℕ) (t : List ℕ). row_bytes b r ++ drop m t) (length-row_bytes b r) parts
      ∙ ap (λ (t : List ℕ). row_bytes b r ++ t) (drop-append-le b (take n s) rest (omega arith))
      ∙ sym (append_assoc (row_bytes b r) (drop b (take n s)) rest))
      ∙ take_at front rest n length_front

  pub table-written : (l : List ℕ) → length s ≤ length l → let w = put 0 (row_bytes (balance_at z 0) r) (put 0 s l) in
      put (length s - 8) (seal_of w (length s - 8) (u32_at s (length s - 4))) w ≡ put 0 (rewritten z r s) l
  table-written l h =
      let n = length s - 8 in
      let b = balance_at z 0 in
      let letters = u32_at s (length s - 4) in
      let w = put 0 (row_bytes b r) (put 0 s l) in
      let e₁ : length (put 0 s l) ≡ length l = length-put 0 s l (omega arith) in
      let e₂ : length (row_bytes b r) ≡ b = length-row_bytes b r in
      let e₃ : length w ≡ length (put 0 s l) = length-put 0 (row_bytes b r) (put 0 s l) (omega arith) in
      let e₄ : length (rewritten z r s) ≡ length s = length-rewritten in
      let end : n + 8 ≤ length w = omega arith in
      put-from n (seal_of w n letters) w end
      ∙ ap (λ (t : List ℕ). put 0 t w)
      (sym (take_put n (seal_of w n letters) w end) ∙ seal-is w n letters end ∙ ap (λ (t : List ℕ). sealed t letters) (rows-over l))
      ∙ put-over (rewritten z r s) (row_bytes b r) (put 0 s l) (omega arith) (omega arith)
      ∙ put-over (rewritten z r s) s l (omega arith) (omega arith)

  -- ---- its bytes: those of the rows, and behind them those of s but for the sum

  in-front : (i : ℕ) → i < length s - 8 → get_or (rewritten z r s) i 0 ≡ get_or front i 0
  in-front i h = let e = length_front in get_or-append front _ 0 i (omega arith)

  row-byte : (i : ℕ) → i < balance_at z 0 → get_or (rewritten z r s) i 0 ≡ row_byte r i
  row-byte i h =
      let e = length-row_bytes (balance_at z 0) r in
      in-front i (omega arith) ∙ get_or-append (row_bytes (balance_at z 0) r) _ 0 i (omega arith) ∙ slice_index-row_bytes (balance_at z 0) r i h

  byte-kept : (i : ℕ) → balance_at z 0 ≤ i → i < length s - 8 → get_or (rewritten z r s) i 0 ≡ get_or s i 0
  byte-kept i l h =
      let b = balance_at z 0 in
      let e = length-row_bytes b r in
      let at : i ≡ length (row_bytes b r) + (i - b) = omega arith in
      let on : b + (i - b) ≡ i = omega arith in
      in-front i h
      ∙ ap (λ (j : ℕ). get_or front j 0) at
      ∙ get_or-append-add (row_bytes b r) _ (i - b) 0
      ∙ get_or-drop b (take (length s - 8) s) (i - b) 0
      ∙ ap (λ (j : ℕ). get_or (take (length s - 8) s) j 0) on
      ∙ get_or-take (length s - 8) s i 0 h

  pub number-kept : (i : ℕ) → balance_at z 0 ≤ i → i + 2 ≤ length s - 8 → u16_at (rewritten z r s) i ≡ u16_at s i
  unfolding u16_at
  number-kept i l h = ap₂ (λ (x y : ℕ). x + 256 * y) (byte-kept i l (omega arith)) (byte-kept (i + 1) (omega arith) (omega arith))

  pub word_kept : (i : ℕ) → balance_at z 0 ≤ i → i + 4 ≤ length s - 8 → u32_at (rewritten z r s) i ≡ u32_at s i
  unfolding u32_at
  word_kept i l h =
      let e₀ = byte-kept i l (omega arith) in
      let e₁ = byte-kept (i + 1) (omega arith) (omega arith) in
      let e₂ = byte-kept (i + 2) (omega arith) (omega arith) in
      let e₃ = byte-kept (i + 3) (omega arith) (omega arith) in
      rw (e₀, e₁, e₂, e₃)

  -- a bit of the rows
  pub bit-written : (v o : ℕ) → v < z.names → o < 256 → row_bit (rewritten z r s) z v o ≡ r v o
  bit-written v o h l =
      let i = 32 * v + o / 8 in
      let q : (32 * v + o / 8) / 32 ≡ v = omega arith in
      let p : 8 * ((32 * v + o / 8) % 32) + o % 8 ≡ o = omega arith in
      ap (λ (n : ℕ). bit n (o % 8)) (row-byte i (omega arith)) ∙ bit-row_byte r i (o % 8) (omega arith) ∙ ap₂ r q p

  module _ (bytes : (i : ℕ) → get_or s i 0 < 256) where
    pub bytes-written : (i : ℕ) → get_or (rewritten z r s) i 0 < 256
    bytes-written i =
        All-at Byte (rewritten z r s) i 0 (omega arith)
        (All-append Byte front _
        (All-append Byte (row_bytes (balance_at z 0) r) _ (row_bytes-small (balance_at z 0) r)
        (All-drop Byte (balance_at z 0) _ (All-take Byte (length s - 8) s (slice_index-All Byte s 0 bytes))))
        (All-append Byte (le32 _) (le32 _) (le32-small (word_sum front (length front / 4))) (le32-small (u32_at s (length s - 4)))))

    pub letters-kept : u32_at (rewritten z r s) (length s - 4) ≡ u32_at s (length s - 4)
    unfolding u32_at
    letters-kept =
        let p = length s - 4 in
        let back = four-back _ _ _ _ (bytes p) (bytes (p + 1)) (bytes (p + 2)) (bytes (p + 3)) in
        let e₀ : get_or (rewritten z r s) p 0 ≡ get_or s p 0 = ap (λ (k : ℕ). get_or (rewritten z r s) k 0) (sym (add-zero p)) ∙ at 0 ∙ back.0 in
        let e₁ : get_or (rewritten z r s) (p + 1) 0 ≡ get_or s (p + 1) 0 = at 1 ∙ back.1 in
        let e₂ : get_or (rewritten z r s) (p + 2) 0 ≡ get_or s (p + 2) 0 = at 2 ∙ back.2 in
        let e₃ : get_or (rewritten z r s) (p + 3) 0 ≡ get_or s (p + 3) 0 = at 3 ∙ back.3 in
        rw (e₀, e₁, e₂, e₃)
      where
        end : List ℕ
        end = seal_of front (length front) (u32_at s (length s - 4))

        at : (j : ℕ) → get_or (rewritten z r s) (length s - 4 + j) 0 ≡ get_or end (4 + j) 0
        at j =
            let e = length_front in
            let on : length s - 4 + j ≡ length front + (4 + j) = omega arith in
            ap (λ (k : ℕ). get_or (rewritten z r s) k 0) on ∙ get_or-append-add front end (4 + j) 0

-- ---- rows that are the same at every name of the table are written alike

byte-same : (r x : Rows) (i : ℕ) → ((o : ℕ) → o < 256 → r (i / 32) o ≡ x (i / 32) o) → row_byte r i ≡ row_byte x i
unfolding row_byte
byte-same r x i same = sum_same 8 _ _ (λ k h. ap (λ (b : Bool). 2 ^ k * one b) (same (8 * (i % 32) + k) (omega arith)))

bytes_same : (r x : Rows) (n : ℕ) → ((i : ℕ) → i < n → row_byte r i ≡ row_byte x i) → row_bytes n r ≡ row_bytes n x
unfolding row_bytes
bytes_same r x zero same = refl
bytes_same r x (suc n) same = ap₂ (λ (l : List ℕ) (b : ℕ). l ++ (b ∷ [])) (bytes_same r x n (λ i h. same i (omega arith))) (same n (omega arith))

pub rewritten-same : (z : Sizes) (r x : Rows) (s : List ℕ) → ((v o : ℕ) → v < z.names → o < 256 → r v o ≡ x v o) → rewritten z r s ≡ rewritten z x s
rewritten-same z r x s same =
    ap (λ (l : List ℕ). sealed (l ++ drop (balance_at z 0) (take (length s - 8) s)) (u32_at s (length s - 4)))
    (bytes_same r x (balance_at z 0) (λ i h. byte-same r x i (λ o l. same (i / 32) o (omega arith) l)))
