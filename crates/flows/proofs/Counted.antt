-- Bits counted word by word: a word's count is that of its bits which pass the test, and the counts of all words together are the rows'.
use Prim.Native.Nat.{ℕ, zero, suc, ◌+◌, ◌*◌, ◌/◌, ◌%◌, ◌^◌, ◌≤◌, ◌<◌}
use native.Mathlib.Nat.{add-zero, add-suc, add_assoc, mul-zero, mul-suc, div-one, pow-suc, lt_of_le_of_lt}
use native.Mathlib.Numerals.{one-add}
use native.Mathlib.Omega.{arith}
use mathlib.Core.Path.{◌≡◌, refl, sym, ap, ap₂, ◌∙◌}
use mathlib.Core.Bool.{Bool, not, ◌&&◌, and_comm}
use mathlib.Core.List.{List}
use lib.Bits.{bit_and, bit_xor, and_le_l, xor_lt}
use lib.Count.{ones, ones_step, ones-le}
use lib.Dec.{eqb}
use lib.ListN.{get_or}
use lib.Pow.{shr-shr}
use Rattle.laws.specs.Search.{sum}
use Rattle.laws.specs.Lists.{one}
use Rattle.laws.specs.Bits.{bit}
use Rattle.laws.proofs.Search.{sum_same, sum-cons, sum-zero, sum_bound}
use Rattle.laws.proofs.Lists.{one-le}
use Rattle.laws.proofs.Bits.{bit-less}
use Rattle.wire.specs.Numbers.{u64_at}
use Rattle.wire.proofs.Laws.{bit-u64}
use Rattle.marks.specs.Marks.{word_at, marked}
use Rattle.layout.specs.declared.Sizes.{Sizes}
use Rattle.layout.specs.Table.{row_bit}

-- ---- sums in parts

sum-split : (m n : ℕ) (f : ℕ → ℕ) → sum (m + n) f ≡ sum m f + sum n (λ k. f (m + k))
unfolding sum
sum-split m zero f = ap (λ (k : ℕ). sum k f) (add-zero m) ∙ sym (add-zero (sum m f))
sum-split m (suc n) f =
    ap (λ (k : ℕ). sum k f) (add-suc m n)
    ∙ ap (λ (x : ℕ). x + f (m + n)) (sum-split m n f)
    ∙ add_assoc (sum m f) (sum n (λ k. f (m + k))) (f (m + n))

sum-blocks : (m n : ℕ) (f : ℕ → ℕ) → sum (m * n) f ≡ sum n (λ j. sum m (λ k. f (m * j + k)))
unfolding sum
sum-blocks m zero f = ap (λ (k : ℕ). sum k f) (mul-zero m)
sum-blocks m (suc n) f =
    ap (λ (k : ℕ). sum k f) (mul-suc m n)
    ∙ sum-split (m * n) m f
    ∙ ap (λ (x : ℕ). x + sum m (λ k. f (m * n + k))) (sum-blocks m n f)

-- ---- the bits of a number

bit-half : (x k : ℕ) → bit (x / 2) k ≡ bit x (suc k)
bit-half x k = ap (λ (n : ℕ). eqb (n % 2) 1) (shr-shr x 1 k ∙ ap (λ (n : ℕ). x / 2 ^ n) (one-add k))

bit-last : (x : ℕ) → one (bit x 0) ≡ x % 2
unfolding one
bit-last x = ap (λ (n : ℕ). one (eqb (n % 2) 1)) (div-one x) ∙ digit (x % 2) (omega arith)
  where
    digit : (d : ℕ) → d < 2 → one (eqb d 1) ≡ d
    digit zero h = refl
    digit (suc zero) h = refl
    digit (suc (suc d)) h = absurd (omega (arith, h))

ones-bits : (m x : ℕ) → x < 2 ^ m → ones x ≡ sum m (λ k. one (bit x k))
ones-bits zero x h = let l = ones-le 0 x h in let z = sum-zero (λ k. one (bit x k)) in omega arith
ones-bits (suc m) x h =
    let d = pow-suc 2 m in
    ones_step x
    ∙ ap₂ ◌+◌ (sym (bit-last x)) (ones-bits m (x / 2) (omega arith) ∙ sum_same m _ _ (λ k l. ap one (bit-half x k)))
    ∙ sym (sum-cons m (λ k. one (bit x k)))

-- ---- the bits of words that the table's have not

-- those of word i of the rows
unfoldable pub fresh : List ℕ → List ℕ → ℕ → ℕ
fresh s rows i = sum 64 λ k. one (bit (get_or rows i 0) k && not (bit (u64_at s (8 * i)) k))

pub fresh-ones : (s rows : List ℕ) (i y : ℕ) → get_or rows i 0 < 2 ^ 64 → y ≡ u64_at s (8 * i)
    → ones (bit_xor (get_or rows i 0) (bit_and (get_or rows i 0) y)) ≡ fresh s rows i
unfolding fresh
fresh-ones s rows i y h e =
    let x = get_or rows i 0 in
    ones-bits 64 (bit_xor x (bit_and x y)) (xor_lt 64 x (bit_and x y) h (lt_of_le_of_lt (and_le_l x y) h))
    ∙ sum_same 64 _ _ (λ k l. ap one (bit-less x y k ∙ and_comm (not (bit y k)) (bit x k) ∙ ap (λ (n : ℕ). bit x k && not (bit n k)) e))

pub fresh-few : (s rows : List ℕ) (i : ℕ) → fresh s rows i ≤ 64
unfolding fresh
fresh-few s rows i = sum_bound 64 _ 1 (λ k. one-le _)

-- the words of a row together, and all rows
marked-word : (rows : List ℕ) (v w k : ℕ) → k < 64 → bit (get_or rows (4 * v + w) 0) k ≡ marked rows v (64 * w + k)
unfolding marked
marked-word rows v w k h =
    let q : w ≡ (64 * w + k) / 64 = omega arith in
    let p : k ≡ (64 * w + k) % 64 = omega arith in
    ap₂ (λ (m n : ℕ). bit (get_or rows (word_at v m) 0) n) q p

pub fresh-rows : (s rows : List ℕ) (z : Sizes) (bytes : (k : ℕ) → get_or s k 0 < 256)
    → sum (4 * z.names) (fresh s rows) ≡ sum z.names (λ v. sum 256 (λ o. one (marked rows v o && not (row_bit s z v o))))
unfolding fresh
fresh-rows s rows z bytes =
    sum-blocks 4 z.names (fresh s rows)
    ∙ sum_same z.names _ _ (λ v h.
    sum_same 4 _ _ (λ w l. sum_same 64 _ _ (λ k m.
    ap₂ (λ (a b : Bool). one (a && not b)) (marked-word rows v w k m) (table-word v w k m)))
    ∙ sym (sum-blocks 64 4 (λ o. one (marked rows v o && not (row_bit s z v o)))))
  where
    table-word : (v w k : ℕ) → k < 64 → bit (u64_at s (8 * (4 * v + w))) k ≡ row_bit s z v (64 * w + k)
    table-word v w k h =
        let q : 8 * (4 * v + w) + k / 8 ≡ 32 * v + (64 * w + k) / 8 = omega arith in
        let p : k % 8 ≡ (64 * w + k) % 8 = omega arith in
        bit-u64 s bytes (8 * (4 * v + w)) k h ∙ ap₂ (λ (i j : ℕ). bit (get_or s i 0) j) q p
