-- What is written is read back: a number where it was put, and of a file that was sealed the sum that its words have.
use Rattle.std.proofs.Common.{◌≡◌, ℕ, zero, suc, ◌+◌, ◌-◌, ◌*◌, ◌/◌, ◌%◌, ◌<◌, ◌≤◌, List, ◌++◌, length, get_or, take, drop, sym, refl, ap, ◌∙◌, ap₂, le_trans, add-zero, arith, length-append, take-append-drop, length-take-le, get_or-append-add}
use native.Mathlib.Nat.{div-div-eq-div-mul}
use lib.ListN.{get_or-append}
use Rattle.laws.specs.Lists.{put}
use Rattle.laws.proofs.Put.{slice_index-written, take_put}
use Rattle.wire.specs.Numbers.{u16_at, u32_at, word_sum, le16, le32, seal_of, sealed}

-- a number by its two bytes
pub two_bytes : (s : List ℕ) (at n : ℕ) → n < 65536 → get_or s at 0 ≡ n % 256 → get_or s (at + 1) 0 ≡ n / 256 % 256 → u16_at s at ≡ n
unfolding u16_at
two_bytes s at n small e f = omega arith

-- and its bytes by the number
pub two-same : (s u : List ℕ) (p q : ℕ) → get_or s p 0 < 256 → get_or u q 0 < 256 → u16_at s p ≡ u16_at u q
    → (get_or s p 0 ≡ get_or u q 0) × (get_or s (p + 1) 0 ≡ get_or u (q + 1) 0)
unfolding u16_at
two-same s u p q h k e = (omega arith, omega arith)

pub four_same : (s u : List ℕ) (p q : ℕ) → ((i : ℕ) → get_or s i 0 < 256) → ((i : ℕ) → get_or u i 0 < 256) → u32_at s p ≡ u32_at u q
    → (get_or s p 0 ≡ get_or u q 0) × (get_or s (p + 1) 0 ≡ get_or u (q + 1) 0) × (get_or s (p + 2) 0 ≡ get_or u (q + 2) 0) × (get_or s (p + 3) 0 ≡ get_or u (q + 3) 0)
unfolding u32_at
four_same s u p q bs bu e =
    let s₀ = bs p in
    let s₁ = bs (p + 1) in
    let s₂ = bs (p + 2) in
    let u₀ = bu q in
    let u₁ = bu (q + 1) in
    let u₂ = bu (q + 2) in
    (omega arith, omega arith, omega arith, omega arith)

pub number-back : (s : List ℕ) (at n : ℕ) → at + 1 < length s → n < 65536 → u16_at (put at (le16 n) s) at ≡ n
number-back s at n h small =
    let f = slice_index-written at (le16 n) s 0 0 (omega arith) (omega arith) in
    let g = slice_index-written at (le16 n) s 1 0 (omega arith) (omega arith) in
    two_bytes (put at (le16 n) s) at n small (ap (λ (k : ℕ). get_or (put at (le16 n) s) k 0) (sym (add-zero at)) ∙ f) g

digits : (n : ℕ) → n < 4294967296 → n % 256 + 256 * (n / 256 % 256) + 65536 * (n / 65536 % 256) + 16777216 * (n / 16777216 % 256) ≡ n
digits n small =
    let p : n / 256 / 256 ≡ n / 65536 = div-div-eq-div-mul n 256 256 in
    let q : n / 65536 / 256 ≡ n / 16777216 = div-div-eq-div-mul n 65536 256 in
    let e₂ : n / 65536 ≡ 256 * (n / 16777216) + n / 65536 % 256 = rw (← q) (omega arith) in
    let e₁ : n / 256 ≡ 256 * (n / 65536) + n / 256 % 256 = rw (← p) (omega arith) in
    let e₀ : n ≡ 256 * (n / 256) + n % 256 = omega arith in
    let top : n / 16777216 % 256 ≡ n / 16777216 = omega arith in
    omega arith

pub word_back : (s : List ℕ) (at n : ℕ) → at + 3 < length s → n < 4294967296 → u32_at (put at (le32 n) s) at ≡ n
unfolding u32_at
word_back s at n h small =
    let f = slice_index-written at (le32 n) s 0 0 (omega arith) (omega arith) in
    let g₁ = slice_index-written at (le32 n) s 1 0 (omega arith) (omega arith) in
    let g₂ = slice_index-written at (le32 n) s 2 0 (omega arith) (omega arith) in
    let g₃ = slice_index-written at (le32 n) s 3 0 (omega arith) (omega arith) in
    let e : get_or (put at (le32 n) s) at 0 ≡ n % 256 = ap (λ (k : ℕ). get_or (put at (le32 n) s) k 0) (sym (add-zero at)) ∙ f in
    rw (e, g₁, g₂, g₃) (digits n small)

-- the sum of the first words is that of their bytes
pub sum-bytes : (s t : List ℕ) (n : ℕ) → ((k : ℕ) → k < 4 * n → get_or s k 0 ≡ get_or t k 0) → word_sum s n ≡ word_sum t n
unfolding word_sum u32_at
sum-bytes s t zero byte = refl
sum-bytes s t (suc n) byte =
    ap₂ (λ (x y : ℕ). (x + y) % 4294967296) (sum-bytes s t n (λ k l. byte k (omega arith)))
    (rw (byte (4 * n) (omega arith), byte (4 * n + 1) (omega arith), byte (4 * n + 2) (omega arith), byte (4 * n + 3) (omega arith)))

-- and does not depend on what follows
pub sum-front : (s t : List ℕ) (n : ℕ) → 4 * n ≤ length s → word_sum (s ++ t) n ≡ word_sum s n
sum-front s t n h = sum-bytes (s ++ t) s n (λ k l. get_or-append s t 0 k (le_trans l h))

sum-small : (s : List ℕ) (n : ℕ) → word_sum s n < 4294967296
unfolding word_sum
sum-small s zero = omega arith
sum-small s (suc n) = omega arith

-- a sealed file has the sum of its words where its readers look for it, 8 bytes before the end (refusals 5 and 17)
pub sealed-sum : (s : List ℕ) (letters : ℕ) → let f = sealed s letters in u32_at f (length f - 8) ≡ word_sum f ((length f - 8) / 4)
unfolding u32_at
sealed-sum s letters =
    let t = seal_of s (length s) letters in
    let w = word_sum s (length s / 4) in
    let e : length (s ++ t) - 8 ≡ length s = rw length-append (omega arith) in
    let b : (k : ℕ) → get_or (s ++ t) (length s + k) 0 ≡ get_or t k 0 = λ k. get_or-append-add s t k 0 in
    let b₀ : get_or (s ++ t) (length s) 0 ≡ w % 256 = ap (λ (k : ℕ). get_or (s ++ t) k 0) (sym (add-zero (length s))) ∙ b 0 in
    rw (e, b₀, b 1, b 2, b 3) (digits w (sum-small s (length s / 4)) ∙ sym (sum-front s t (length s / 4) (omega arith)))

-- what `seal` leaves begins with the sealed file
pub seal-is : (s : List ℕ) (at letters : ℕ) → at + 8 ≤ length s → take (at + 8) (put at (seal_of s at letters) s) ≡ sealed (take at s) letters
seal-is s at letters h =
    let l : length (take at s) ≡ at = length-take-le at s (omega arith) in
    let w : word_sum s (at / 4) ≡ word_sum (take at s) (at / 4) =
    ap (λ (z : List ℕ). word_sum z (at / 4)) (sym (take-append-drop at s)) ∙ sum-front (take at s) (drop at s) (at / 4) (omega arith) in
    take_put at (seal_of s at letters) s h
    ∙ ap (λ (n : ℕ). take at s ++ (le32 n ++ le32 letters)) (w ∙ ap (λ (k : ℕ). word_sum (take at s) (k / 4)) (sym l))
