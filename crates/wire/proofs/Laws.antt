-- The word sum grows word by word, and the bits of a number in a file are those of its bytes.
use Rattle.std.proofs.Common.{◌≡◌, ℕ, zero, suc, ◌+◌, ◌-◌, ◌*◌, ◌/◌, ◌%◌, ◌^◌, ◌<◌, true, false, ltb, ◌⊎◌, List, get_or, ap, ◌∙◌, ap₂, inl, inr, add-zero, add_assoc, add-one, arith, ltb-false, ltb-true, take, drop, lit<, get_or-take, get_or-drop}
use Rattle.std.specs.Int.{w16, w32, w64, byte_worth, from_le_bytes}
use Rattle.laws.specs.Bits.{bit}
use Rattle.laws.proofs.Search.{decided}
use Rattle.laws.proofs.Bits.{bit-low, bit_high}
use Rattle.wire.specs.Numbers.{u16_at, u32_at, u64_at, word_sum}

-- ---- numbers by their bytes, as the library reads them

byte_at : (s : List ℕ) (at n k : ℕ) → k < n → get_or (take n (drop at s)) k 0 ≡ get_or s (at + k) 0
byte_at s at n k h = rw (get_or-take, get_or-drop)

low_byte : (s : List ℕ) (at n : ℕ) → 0 < n → byte_worth 0 (get_or (take n (drop at s)) 0 0) ≡ get_or s at 0
low_byte s at n h = byte_at s at n 0 h ∙ ap (λ (k : ℕ). get_or s k 0) (add-zero at)

pub number_2 : (s : List ℕ) (at : ℕ) → from_le_bytes w16 (take 2 (drop at s)) ≡ u16_at s at
unfolding u16_at
number_2 s at =
    let b = byte_at s at 2 in
    omega (arith, low_byte s at 2 (lit< tt), b 1 (lit< tt))

pub number_4 : (s : List ℕ) (at : ℕ) → from_le_bytes w32 (take 4 (drop at s)) ≡ u32_at s at
unfolding u32_at
number_4 s at =
    let b = byte_at s at 4 in
    omega (arith, low_byte s at 4 (lit< tt), b 1 (lit< tt), b 2 (lit< tt), b 3 (lit< tt))

pub number_8 : (s : List ℕ) (at : ℕ) → from_le_bytes w64 (take 8 (drop at s)) ≡ u64_at s at
unfolding u64_at u32_at
number_8 s at =
    let b = byte_at s at 8 in
    let high = λ (k : ℕ). ap (λ (j : ℕ). get_or s j 0) (add_assoc at 4 k) in
    omega (arith, low_byte s at 8 (lit< tt), b 1 (lit< tt), b 2 (lit< tt), b 3 (lit< tt), b 4 (lit< tt), b 5 (lit< tt), b 6 (lit< tt), b 7 (lit< tt), high 1, high 2, high 3)

pub word_sum-step : (s : List ℕ) (n : ℕ) → word_sum s (n + 1) ≡ (word_sum s n + u32_at s (4 * n)) % 2 ^ 32
unfolding word_sum
word_sum-step s n = rw (add-one, word_sum)

-- ---- the bits of a number are those of its bytes

-- the number of n bytes, the lowest first
bytes : (ℕ → ℕ) → ℕ → ℕ
bytes f zero = 0
bytes f (suc n) = f 0 + 2 ^ 8 * bytes (λ j. f (suc j)) n

bit-bytes : (f : ℕ → ℕ) → ((j : ℕ) → f j < 256) → (n k : ℕ) → k < 8 * n → bit (bytes f n) k ≡ bit (f (k / 8)) (k % 8)
unfolding bytes
bit-bytes f b zero k h = absurd (omega arith)
bit-bytes f b (suc n) k h = go (decided (ltb k 8)) (λ l. bit-bytes (λ j. f (suc j)) (λ j. b (suc j)) n l)
  where
    rest : ℕ
    rest = bytes (λ j. f (suc j)) n

    go : (ltb k 8 ≡ true) ⊎ (ltb k 8 ≡ false) → ((l : ℕ) → l < 8 * n → bit rest l ≡ bit (f (suc (l / 8))) (l % 8))
        → bit (f 0 + 2 ^ 8 * rest) k ≡ bit (f (k / 8)) (k % 8)
    go (inl e) more =
        let l = ltb-true k 8 e in
        let q : 0 ≡ k / 8 = omega arith in
        let r : k ≡ k % 8 = omega arith in
        bit-low 8 (f 0) rest k (b 0) l ∙ ap₂ (λ (x y : ℕ). bit (f x) y) q r
    go (inr e) more =
        let l = ltb-false k 8 e in
        let p : k ≡ 8 + (k - 8) = omega arith in
        let q : suc ((k - 8) / 8) ≡ k / 8 = omega arith in
        let r : (k - 8) % 8 ≡ k % 8 = omega arith in
        ap (λ (x : ℕ). bit (f 0 + 2 ^ 8 * rest) x) p
        ∙ bit_high 8 (f 0) rest (k - 8) (b 0)
        ∙ more (k - 8) (omega arith)
        ∙ ap₂ (λ (x y : ℕ). bit (f x) y) q r

bytes-u64 : (s : List ℕ) (i : ℕ) → u64_at s i ≡ bytes (λ j. get_or s (i + j) 0) 8
unfolding u64_at u32_at bytes
bytes-u64 s i =
    let e0 = ap (λ (k : ℕ). get_or s k 0) (add-zero i) in
    let e5 = ap (λ (k : ℕ). get_or s k 0) (add_assoc i 4 1) in
    let e6 = ap (λ (k : ℕ). get_or s k 0) (add_assoc i 4 2) in
    let e7 = ap (λ (k : ℕ). get_or s k 0) (add_assoc i 4 3) in
    omega arith

pub bit-u64 : (s : List ℕ) → ((k : ℕ) → get_or s k 0 < 256) → (i k : ℕ) → k < 64 → bit (u64_at s i) k ≡ bit (get_or s (i + k / 8) 0) (k % 8)
bit-u64 s b i k h = ap (λ (n : ℕ). bit n k) (bytes-u64 s i) ∙ bit-bytes (λ j. get_or s (i + j) 0) (λ j. b (i + j)) 8 k h

-- a 16-bit number of a file
pub u16-small : (s : List ℕ) → ((k : ℕ) → get_or s k 0 < 256) → (i : ℕ) → u16_at s i < 65536
unfolding u16_at
u16-small s bytes i = omega (arith, bytes i, bytes (i + 1))
