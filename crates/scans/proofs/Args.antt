-- Arguments read one by one, and the argument bytes past the arity as one number.
use Prim.Native.Nat.{ℕ, zero, suc, ◌+◌, ◌*◌, ◌/◌, ◌^◌, ◌≤◌, ◌<◌}
use native.Mathlib.Nat.{add-zero, zero-add, add_assoc, mul-suc, div-lt_iff_lt-mul}
use native.Mathlib.Omega.{arith}
use mathlib.Core.Path.{◌≡◌, refl, sym, ap, ◌∙◌}
use mathlib.Core.Logic.{⊎_elim}
use mathlib.Core.Bool.{Bool, true, false, ◌&&◌, ◌||◌}
use mathlib.Core.List.{List, [], ◌∷◌}
use lib.Dec.{eqb, ltb}
use lib.ListN.{length, get_or}
use lib.Pow.{pow_pos, pow_mono}
use borrow.Author.Tests.{eq-eqb, ltb-false, lt-ltb}
use Rattle.laws.specs.Search.{every, any, sum}
use Rattle.laws.specs.Lists.{one, all, has, times}
use Rattle.laws.proofs.Search.{decided, or_right, every-zero, every-cons, true-every, any-zero, any-cons, sum-zero, sum-cons}
use Rattle.std.specs.Int.{w64, byte_worth, from_le_bytes}
use Rattle.wire.specs.Numbers.{u32_at, u64_at}
use Rattle.records.specs.declared.Record.{Record}
use Rattle.fields.specs.Fields.{rest_zero}

-- ---- a list, by position

module _ (f : ℕ → Bool) where
  pub every_all : (xs : List ℕ) → every (length xs) (λ k. f (get_or xs k 0)) ≡ all f xs
  unfolding all
  every_all [] = every-zero _
  every_all (x ∷ xs) = every-cons (length xs) _ ∙ ap (λ (b : Bool). f x && b) (every_all xs)

module _ (v : ℕ) where
  pub any_has : (xs : List ℕ) → any (length xs) (λ k. eqb v (get_or xs k 0)) ≡ has xs v
  unfolding has
  any_has [] = any-zero _
  any_has (x ∷ xs) = any-cons (length xs) _ ∙ ap (λ (b : Bool). eqb v x || b) (any_has xs)

  pub sum_times : (xs : List ℕ) → sum (length xs) (λ k. one (eqb v (get_or xs k 0))) ≡ times xs v
  unfolding times
  sum_times [] = sum-zero _
  sum_times (x ∷ xs) = sum-cons (length xs) _ ∙ ap (λ (m : ℕ). one (eqb v x) + m) (sum_times xs)

-- ---- a number of eight bytes

byte_le : (s : List ℕ) (i k : ℕ) → k < 8 → 2 ^ (8 * k) * get_or s (i + k) 0 ≤ u64_at s i
unfolding u64_at u32_at
byte_le s i k h = go k h
  where
    go : (k : ℕ) → k < 8 → 2 ^ (8 * k) * get_or s (i + k) 0 ≤ u64_at s i
    go zero h = let e = ap (λ (k : ℕ). get_or s k 0) (add-zero i) in omega arith
    go (suc zero) h = omega arith
    go (suc (suc zero)) h = omega arith
    go (suc (suc (suc zero))) h = omega arith
    go (suc (suc (suc (suc zero)))) h = omega arith
    go (suc (suc (suc (suc (suc zero))))) h = let e = ap (λ (k : ℕ). get_or s k 0) (add_assoc i 4 1) in omega arith
    go (suc (suc (suc (suc (suc (suc zero)))))) h = let e = ap (λ (k : ℕ). get_or s k 0) (add_assoc i 4 2) in omega arith
    go (suc (suc (suc (suc (suc (suc (suc zero))))))) h = let e = ap (λ (k : ℕ). get_or s k 0) (add_assoc i 4 3) in omega arith
    go (suc (suc (suc (suc (suc (suc (suc (suc k)))))))) h = absurd (omega arith)

-- a number without high bytes has zeros there
pub high_zero : (s : List ℕ) (i n k : ℕ) → u64_at s i / 2 ^ (8 * n) ≡ 0 → n ≤ k → k < 8 → get_or s (i + k) 0 ≡ 0
high_zero s i n k e l h = go (get_or s (i + k) 0) refl
  where
    go : (b : ℕ) → get_or s (i + k) 0 ≡ b → get_or s (i + k) 0 ≡ 0
    go zero q = q
    go (suc b) q =
        let below : u64_at s i < 1 * 2 ^ (8 * n) = (div-lt_iff_lt-mul (pow_pos (8 * n))).0 (omega arith) in
        let more : 2 ^ (8 * n) ≤ 2 ^ (8 * k) = pow_mono (omega arith) in
        let byte = byte_le s i k h in
        let split = ap (λ (x : ℕ). 2 ^ (8 * k) * x) q ∙ mul-suc (2 ^ (8 * k)) b in
        absurd (omega arith)

number_of_args : (args : List ℕ) → from_le_bytes w64 args ≡ u64_at args 0
unfolding u64_at u32_at
number_of_args args = let e : byte_worth 0 (get_or args 0 0) ≡ get_or args 0 0 = refl in omega arith

-- the argument bytes past the arity are zero where their number without the bytes before is
pub rest-zeros : (r : Record) → from_le_bytes w64 r.args / 2 ^ (8 * r.arity) ≡ 0 → every 8 (rest_zero r) ≡ true
rest-zeros r e =
    true-every 8 (rest_zero r) (λ k h.
    ⊎_elim (λ (q : ltb k r.arity ≡ true). rw q)
    (λ (q : ltb k r.arity ≡ false).
    or_right (ltb k r.arity) _ (eq-eqb _ 0 (ap (λ (n : ℕ). get_or r.args n 0) (sym (zero-add k))
    ∙ high_zero r.args 0 r.arity k (ap (λ (n : ℕ). n / 2 ^ (8 * r.arity)) (sym (number_of_args r.args)) ∙ e) (ltb-false k r.arity q) h))) (decided (ltb k r.arity)))

pub used-up : (r : Record) → 8 ≤ r.arity → every 8 (rest_zero r) ≡ true
used-up r e = true-every 8 (rest_zero r) (λ k h. rw (lt-ltb k r.arity (omega arith)))
