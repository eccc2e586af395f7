-- The laws of `bit`: the bits of 0, of a power of two, of two numbers or-ed, and-ed and xor-ed, of a number in two parts,
-- and what two tests by `and` say of the bits.
use Prim.Native.Nat.{ℕ, zero, suc, ◌+◌, ◌*◌, ◌/◌, ◌%◌, ◌^◌, ◌<◌}
use native.Mathlib.Nat.{add_comm, mul_comm, one-mul, zero-div, div-one, pow-suc, mul-div_cancel, mul-mod_left, mod-lt}
use native.Mathlib.Nat.{lt_of_le_of_lt, not-suc-le-zero, le_of_suc-le-suc}
use native.Mathlib.Numerals.{one-add}
use native.Mathlib.Omega.{arith}
use mathlib.Core.Path.{◌≡◌, refl, sym, ap, ◌∙◌}
use mathlib.Core.Logic.{◌⊎◌, inl, inr}
use mathlib.Core.Bool.{Bool, true, false, cond, not, ◌&&◌, ◌||◌, false≢true, true≢false}
use lib.Bits.{bit_and, bit_or, bit_xor, and_shr, and_mod, and_le_l, or_shr, or_mod, xor_shr, xor_mod, block_half, block_odd}
use lib.Dec.{eqb, eqb-zero-suc, eqb-suc-zero, eqb-suc-suc}
use lib.Pow.{pow_pos, shl_exact, shr-shr, high}
use borrow.Author.Tests.{eqb-true, eq-eqb, ne_eqb}
use Rattle.laws.specs.Search.{any, every}
use Rattle.laws.specs.Bits.{bit}
use Rattle.laws.proofs.Search.{decided, and_split, implied, same_test, every_true, true-every, any-true, any_false, any_same}

pub bit-zero : (k : ℕ) → bit 0 k ≡ false
bit-zero k = ap (λ (n : ℕ). eqb (n % 2) 1) (zero-div (2 ^ k))

-- the lowest bit is the number's last digit, and a bit above it is one of the half
bit-last : (x : ℕ) → bit x 0 ≡ eqb (x % 2) 1
bit-last x = ap (λ (n : ℕ). eqb (n % 2) 1) (div-one x)

bit-half : (x k : ℕ) → bit x (suc k) ≡ bit (x / 2) k
bit-half x k = ap (λ (n : ℕ). eqb (n % 2) 1) (ap (λ (n : ℕ). x / 2 ^ n) (sym (one-add k)) ∙ sym (shr-shr x 1 k))

double-half : (j : ℕ) → 2 ^ suc j / 2 ≡ 2 ^ j
double-half j = ap (λ (n : ℕ). n / 2) (pow-suc 2 j) ∙ mul-div_cancel (2 ^ j) (omega arith)

pub bit-pow : (j k : ℕ) → bit (2 ^ j) k ≡ eqb k j
bit-pow zero zero = refl
bit-pow zero (suc k) = bit-half (2 ^ 0) k ∙ bit-zero k ∙ sym (eqb-suc-zero k)
bit-pow (suc j) zero =
    ap (λ (n : ℕ). eqb (n % 2) 1) (div-one (2 ^ suc j) ∙ pow-suc 2 j)
    ∙ ap (λ (n : ℕ). eqb n 1) (mul-mod_left (2 ^ j) 2) ∙ sym (eqb-zero-suc j)
bit-pow (suc j) (suc k) = bit-half (2 ^ suc j) k ∙ ap (λ (n : ℕ). bit n k) (double-half j) ∙ bit-pow j k ∙ sym (eqb-suc-suc k j)

-- what holds of 0 and 1 holds of two digits
two_digits : (P : ℕ → ℕ → Type 0) → P 0 0 → P 0 1 → P 1 0 → P 1 1 → (x y : ℕ) → x < 2 → y < 2 → P x y
two_digits P a b c d zero zero h k = a
two_digits P a b c d zero (suc zero) h k = b
two_digits P a b c d (suc zero) zero h k = c
two_digits P a b c d (suc zero) (suc zero) h k = d
two_digits P a b c d (suc (suc x)) y h k = absurd (not-suc-le-zero (le_of_suc-le-suc (le_of_suc-le-suc h)))
two_digits P a b c d zero (suc (suc y)) h k = absurd (not-suc-le-zero (le_of_suc-le-suc (le_of_suc-le-suc k)))
two_digits P a b c d (suc zero) (suc (suc y)) h k = absurd (not-suc-le-zero (le_of_suc-le-suc (le_of_suc-le-suc k)))

-- an operation that goes through the digits goes through the bits
module _ (op : ℕ → ℕ → ℕ) (r : Bool → Bool → Bool)
    (high_part : (a b k : ℕ) → op a b / 2 ^ k ≡ op (a / 2 ^ k) (b / 2 ^ k))
    (low_part : (a b k : ℕ) → op a b % 2 ^ k ≡ op (a % 2 ^ k) (b % 2 ^ k))
    (digit : (x y : ℕ) → x < 2 → y < 2 → eqb (op x y) 1 ≡ r (eqb x 1) (eqb y 1)) where
  bit-op : (x y k : ℕ) → bit (op x y) k ≡ r (bit x k) (bit y k)
  bit-op x y k =
      ap (λ (n : ℕ). eqb (n % 2) 1) (high_part x y k)
      ∙ ap (λ (n : ℕ). eqb n 1) (low_part (x / 2 ^ k) (y / 2 ^ k) 1)
      ∙ digit (x / 2 ^ k % 2) (y / 2 ^ k % 2) (mod-lt (x / 2 ^ k) (omega arith)) (mod-lt (y / 2 ^ k) (omega arith))

pub bit-or : (x y k : ℕ) → bit (bit_or x y) k ≡ bit x k || bit y k
bit-or = bit-op bit_or ◌||◌ or_shr or_mod (two_digits (λ x y. eqb (bit_or x y) 1 ≡ eqb x 1 || eqb y 1) refl refl refl refl)

pub bit-and : (x y k : ℕ) → bit (bit_and x y) k ≡ bit x k && bit y k
bit-and = bit-op bit_and ◌&&◌ and_shr and_mod (two_digits (λ x y. eqb (bit_and x y) 1 ≡ eqb x 1 && eqb y 1) refl refl refl refl)

pub bit-xor : (x y k : ℕ) → bit (bit_xor x y) k ≡ cond (bit x k) (not (bit y k)) (bit y k)
bit-xor =
    bit-op bit_xor (λ a b. cond a (not b) b) xor_shr xor_mod
    (two_digits (λ x y. eqb (bit_xor x y) 1 ≡ cond (eqb x 1) (not (eqb y 1)) (eqb y 1)) refl refl refl refl)

-- a number without its bits that are in another
pub bit-less : (x y k : ℕ) → bit (bit_xor x (bit_and x y)) k ≡ not (bit y k) && bit x k
bit-less x y k = bit-xor x (bit_and x y) k ∙ ap (λ (b : Bool). cond (bit x k) (not b) b) (bit-and x y k) ∙ go (bit x k) (bit y k)
  where
    go : (a b : Bool) → cond a (not (a && b)) (a && b) ≡ not b && a
    go true true = refl
    go true false = refl
    go false true = refl
    go false false = refl

-- 1 shifted left inside a word
pub one_shifted : (k : ℕ) → k < 64 → 1 * 2 ^ k % 2 ^ 64 ≡ 2 ^ k
one_shifted k h = shl_exact {a = 1} 1 k 64 (omega arith) (omega arith) ∙ one-mul (2 ^ k)

-- ---- a number in two parts, m bits and the rest

parts-turned : (m x y : ℕ) → x + 2 ^ m * y ≡ y * 2 ^ m + x
parts-turned m x y = add_comm x (2 ^ m * y) ∙ ap (λ (n : ℕ). n + x) (mul_comm (2 ^ m) y)

pub bit-low : (m x y k : ℕ) → x < 2 ^ m → k < m → bit (x + 2 ^ m * y) k ≡ bit x k
bit-low m x y k h l = ap (λ (n : ℕ). bit n k) (parts-turned m x y) ∙ go m x k l
  where
    go : (m x k : ℕ) → k < m → bit (y * 2 ^ m + x) k ≡ bit x k
    go zero x k l = absurd (not-suc-le-zero l)
    go (suc m) x zero l = bit-last (y * 2 ^ suc m + x) ∙ ap (λ (n : ℕ). eqb n 1) (block_odd y m x) ∙ sym (bit-last x)
    go (suc m) x (suc k) l =
        bit-half (y * 2 ^ suc m + x) k ∙ ap (λ (n : ℕ). bit n k) (block_half y m x) ∙ go m (x / 2) k (le_of_suc-le-suc l) ∙ sym (bit-half x k)

pub bit_high : (m x y k : ℕ) → x < 2 ^ m → bit (x + 2 ^ m * y) (m + k) ≡ bit y k
bit_high m x y k h =
    ap (λ (n : ℕ). bit n (m + k)) (parts-turned m x y)
    ∙ ap (λ (n : ℕ). eqb (n % 2) 1) (sym (shr-shr (y * 2 ^ m + x) m k) ∙ ap (λ (n : ℕ). n / 2 ^ k) (high y m h))

-- ---- tests of all bits at once

-- two numbers of n bits are equal where their bits are
pub bit-ext : (n x y : ℕ) → x < 2 ^ n → y < 2 ^ n → ((k : ℕ) → k < n → bit x k ≡ bit y k) → x ≡ y
bit-ext zero x y h l e = omega arith
bit-ext (suc n) x y h l e =
    let d = pow-suc 2 n in
    let p : x / 2 ≡ y / 2 =
    bit-ext n (x / 2) (y / 2) (omega arith) (omega arith) (λ k m. sym (bit-half x k) ∙ e (suc k) (omega arith) ∙ bit-half y k) in
    let q : x % 2 ≡ y % 2 =
    same-digit (x % 2) (y % 2) (omega arith) (omega arith) (sym (bit-last x) ∙ e 0 (omega arith) ∙ bit-last y) in
    omega arith
  where
    same-digit : (x y : ℕ) → x < 2 → y < 2 → eqb x 1 ≡ eqb y 1 → x ≡ y
    same-digit =
        two_digits (λ x y. eqb x 1 ≡ eqb y 1 → x ≡ y)
        (λ e. refl) (λ e. absurd (false≢true e)) (λ e. absurd (true≢false e)) (λ e. refl)

-- a number is not 0 where some bit is set
bit-some : (n x : ℕ) → x < 2 ^ n → not (eqb x 0) ≡ any n (λ k. bit x k)
bit-some n x h = go (decided (any n (λ k. bit x k)))
  where
    go : (any n (λ k. bit x k) ≡ true) ⊎ (any n (λ k. bit x k) ≡ false) → not (eqb x 0) ≡ any n (λ k. bit x k)
    go (inl e) =
        let s = any-true n (λ k. bit x k) e in
        rw e (ap not (ne_eqb x 0 (λ q. false≢true (sym (bit-zero s.0) ∙ ap (λ (y : ℕ). bit y s.0) (sym q) ∙ s.2))))
    go (inr e) =
        rw e (ap not (eq-eqb x 0 (bit-ext n x 0 h (pow_pos n) (λ k l. any_false n (λ k. bit x k) e k l ∙ sym (bit-zero k)))))

-- two numbers have a bit in common
pub and-some : (n x y : ℕ) → x < 2 ^ n → not (eqb (bit_and x y) 0) ≡ any n (λ k. bit x k && bit y k)
and-some n x y h =
    bit-some n (bit_and x y) (lt_of_le_of_lt (and_le_l x y) h)
    ∙ any_same n (λ k. bit (bit_and x y) k) (λ k. bit x k && bit y k) (λ k l. bit-and x y k)

-- every bit of x is a bit of y
pub and-whole : (n x y : ℕ) → x < 2 ^ n → eqb (bit_and x y) x ≡ every n (λ k. not (bit x k) || bit y k)
and-whole n x y h =
    same_test (eqb (bit_and x y) x) (every n (λ k. not (bit x k) || bit y k))
    (λ e. true-every n (λ k. not (bit x k) || bit y k) (λ k l. implied (bit x k) (bit y k) (λ b. kept k (eqb-true (bit_and x y) x e) b)))
    (λ e. eq-eqb (bit_and x y) x
    (bit-ext n (bit_and x y) x (lt_of_le_of_lt (and_le_l x y) h) h
    (λ k l. bit-and x y k ∙ first_of (bit x k) (bit y k) (every_true n (λ k. not (bit x k) || bit y k) e k l))))
  where
    kept : (k : ℕ) → bit_and x y ≡ x → bit x k ≡ true → bit y k ≡ true
    kept k e b = (and_split (bit x k) (bit y k) (sym (bit-and x y k) ∙ ap (λ (z : ℕ). bit z k) e ∙ b)).1

    first_of : (a b : Bool) → not a || b ≡ true → a && b ≡ a
    first_of true b e = e
    first_of false b e = refl
