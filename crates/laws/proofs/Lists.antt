-- The laws of `All`, `all`, `has` and `times`.
use Prim.Native.Nat.{ℕ, zero, suc, ◌+◌, ◌≤◌, ◌<◌, zero-le}
use native.Mathlib.Nat.{not-suc-le-zero, le_of_suc-le-suc}
use native.Mathlib.Omega.{arith}
use mathlib.Core.Path.{◌≡◌, refl, sym, ap, ap₂, ◌∙◌, subst}
use mathlib.Core.Logic.{◌⊎◌, inl, inr, ⊎_elim}
use mathlib.Core.Bool.{Bool, true, false, cond, ◌&&◌, ◌||◌, false≢true}
use mathlib.Core.List.{List, [], ◌∷◌, ◌++◌, map}
use lib.Dec.{eqb, leb, ltb, leb-suc-zero, leb-suc-suc}
use lib.ListN.{length, get_or, take, drop, set, replicate}
use lib.Seq.{take-nil, get_or-take, length-take-le, get_or-set_same, get_or-set_other}
use borrow.Author.Tests.{eqb-true, eqb-false, eq-eqb, le-leb, lt-ltb, le-ltb}
use borrow.Author.Count.{below_more}
use Rattle.laws.specs.Search.{every, any, sum}
use Rattle.laws.specs.Lists.{All, one, all, has, times}
use Rattle.laws.proofs.Search.{decided, and_split, and-join, or_split, or_right, true-every, every-same, every-zero, every-cons}
use Rattle.laws.proofs.Search.{any_same, any-cons, sum_same, sum-cons}

-- ---- a statement of every element

pub All-append : {A : Type 0} (P : A → Type 0) (xs ys : List A) → All P xs → All P ys → All P (xs ++ ys)
All-append P [] ys h k = k
All-append P (x ∷ xs) ys h k = (h.0, All-append P xs ys h.1 k)

pub All-slice_index : {A : Type 0} (P : A → Type 0) (xs : List A) (i : ℕ) (d : A) → All P xs → i < length xs → P (get_or xs i d)
All-slice_index P [] i d h k = absurd (not-suc-le-zero k)
All-slice_index P (x ∷ xs) zero d h k = h.0
All-slice_index P (x ∷ xs) (suc i) d h k = All-slice_index P xs i d h.1 (le_of_suc-le-suc k)

-- of one of the first n elements
pub All-front : {A : Type 0} (P : A → Type 0) (n : ℕ) (xs : List A) (k : ℕ) (d : A) → All P (take n xs) → k < n → n ≤ length xs → P (get_or xs k d)
All-front P n xs k d h l room =
    let e = length-take-le n xs room in
    subst P (get_or-take n xs k d l) (All-slice_index P (take n xs) k d h (omega arith))

-- where the default meets it too, any position does
pub All-at : {A : Type 0} (P : A → Type 0) (xs : List A) (i : ℕ) (d : A) → P d → All P xs → P (get_or xs i d)
All-at P [] i d h k = h
All-at P (x ∷ xs) zero d h k = k.0
All-at P (x ∷ xs) (suc i) d h k = All-at P xs i d h k.1

pub All-map : {A : Type 0} {P Q : A → Type 0} → ((x : A) → P x → Q x) → (xs : List A) → All P xs → All Q xs
All-map f [] h = tt
All-map f (x ∷ xs) h = (f x h.0, All-map f xs h.1)

pub All-maps : {A B : Type 0} (P : B → Type 0) (f : A → B) (xs : List A) → All (λ x. P (f x)) xs → All P (map f xs)
All-maps P f [] h = tt
All-maps P f (x ∷ xs) h = (h.0, All-maps P f xs h.1)

pub get_d_map : {A B : Type 0} (f : A → B) (xs : List A) (n : ℕ) (d : A) (e : B) → n < length xs → get_or (map f xs) n e ≡ f (get_or xs n d)
get_d_map f [] n d e h = absurd (not-suc-le-zero h)
get_d_map f (x ∷ xs) zero d e h = refl
get_d_map f (x ∷ xs) (suc n) d e h = get_d_map f xs n d e (le_of_suc-le-suc h)

pub All-drop : {A : Type 0} (P : A → Type 0) (n : ℕ) (xs : List A) → All P xs → All P (drop n xs)
All-drop P zero xs h = h
All-drop P (suc n) [] h = tt
All-drop P (suc n) (x ∷ xs) h = All-drop P n xs h.1

pub All-take : {A : Type 0} (P : A → Type 0) (n : ℕ) (xs : List A) → All P xs → All P (take n xs)
All-take P zero xs h = tt
All-take P (suc n) [] h = tt
All-take P (suc n) (x ∷ xs) h = (h.0, All-take P n xs h.1)

pub slice_index-All : {A : Type 0} (P : A → Type 0) (xs : List A) (d : A) → ((k : ℕ) → P (get_or xs k d)) → All P xs
slice_index-All P [] d h = tt
slice_index-All P (x ∷ xs) d h = (h 0, slice_index-All P xs d (λ k. h (suc k)))

pub below-All : {A : Type 0} (P : A → Type 0) (d : A) (xs : List A) → ((i : ℕ) → i < length xs → P (get_or xs i d)) → All P xs
below-All P d [] h = tt
below-All P d (x ∷ xs) h = (h 0 (omega arith), below-All P d xs (λ i b. h (suc i) (omega arith)))

-- a test at every position, and of every element
pub every-All : {A : Type 0} (f : A → Bool) (d : A) (xs : List A) → every (length xs) (λ i. f (get_or xs i d)) ≡ true → All (λ x. f x ≡ true) xs
every-All f d [] h = tt
every-All f d (x ∷ xs) h =
    let s = and_split (f x) _ (sym (every-cons (length xs) (λ i. f (get_or (x ∷ xs) i d))) ∙ h) in
    (s.0, every-All f d xs s.1)

pub All-every : {A : Type 0} (f : A → Bool) (d : A) (xs : List A) → All (λ x. f x ≡ true) xs → every (length xs) (λ i. f (get_or xs i d)) ≡ true
All-every f d [] h = every-zero _
All-every f d (x ∷ xs) h = every-cons (length xs) (λ i. f (get_or (x ∷ xs) i d)) ∙ and-join h.0 (All-every f d xs h.1)

-- the word at k after a store at i
pub get_d_set : (l : List ℕ) (i a k d : ℕ) → i < length l → get_or (set l i a) k d ≡ cond (eqb k i) a (get_or l k d)
get_d_set l i a k d h = go (decided (eqb k i))
  where
    go : (eqb k i ≡ true) ⊎ (eqb k i ≡ false) → get_or (set l i a) k d ≡ cond (eqb k i) a (get_or l k d)
    go (inl e) = rw (e, eqb-true k i e) (get_or-set_same l i a d h)
    go (inr e) = rw e (get_or-set_other l i k a d (eqb-false k i e))

-- a list that holds f below j: one word more
pub set_more : (f : ℕ → ℕ) (l : List ℕ) (j x : ℕ) → j < length l → ((i : ℕ) → i < j → get_or l i 0 ≡ f i) → x ≡ f j
    → (i : ℕ) → i < j + 1 → get_or (set l j x) i 0 ≡ f i
set_more f l j x h below e =
    below_more (λ i. get_or (set l j x) i 0 ≡ f i) j
    (λ i k. get_or-set_other l j i x 0 (λ q. absurd (omega arith)) ∙ below i k) (get_or-set_same l j x 0 h ∙ e)

pub slice_index-zeros : (n k : ℕ) → get_or {A = ℕ} (replicate n 0) k 0 ≡ 0
slice_index-zeros zero k = refl
slice_index-zeros (suc n) zero = refl
slice_index-zeros (suc n) (suc k) = slice_index-zeros n k

-- ---- tests of a list of numbers

-- 1 exactly where the test passes
pub one-true : (b : Bool) → 1 ≤ one b → b ≡ true
unfolding one
one-true true h = refl
one-true false h = absurd (not-suc-le-zero h)

pub true-one : (b : Bool) → b ≡ true → one b ≡ 1
unfolding one
true-one b e = rw (e, one)

pub one-le : (b : Bool) → one b ≤ 1
unfolding one
one-le true = omega arith
one-le false = omega arith

pub all_true : (f : ℕ → Bool) (xs : List ℕ) → all f xs ≡ true → All (λ x. f x ≡ true) xs
unfolding all
all_true f [] e = tt
all_true f (x ∷ xs) e = let s = and_split (f x) (all f xs) e in (s.0, all_true f xs s.1)

-- a test that passes at every number of a list passes at one that stands there
pub all-has : (f : ℕ → Bool) (xs : List ℕ) (v : ℕ) → all f xs ≡ true → has xs v ≡ true → f v ≡ true
unfolding all has
all-has f [] v e h = absurd (false≢true h)
all-has f (x ∷ xs) v e h =
    let s = and_split (f x) (all f xs) e in
    ⊎_elim (λ (k : eqb v x ≡ true). rw (eqb-true v x k) s.0) (λ (k : has xs v ≡ true). all-has f xs v s.1 k) (or_split (eqb v x) (has xs v) h)

pub all_same : (P : ℕ → Type 0) (f g : ℕ → Bool) (xs : List ℕ) → All P xs → ((v : ℕ) → P v → f v ≡ g v) → all f xs ≡ all g xs
unfolding all
all_same P f g [] h e = refl
all_same P f g (x ∷ xs) h e = ap₂ ◌&&◌ (e x h.0) (all_same P f g xs h.1 e)

pub has_all : (f : ℕ → Bool) (xs : List ℕ) → ((v : ℕ) → has xs v ≡ true → f v ≡ true) → all f xs ≡ true
unfolding all has
has_all f [] h = refl
has_all f (x ∷ xs) h =
    and-join (h x (rw (eq-eqb x x refl))) (has_all f xs (λ v k. h v (or_right (eqb v x) (has xs v) k)))

pub has_here : (x : ℕ) (xs : List ℕ) → has (x ∷ xs) x ≡ true
unfolding has
has_here x xs = rw (eq-eqb x x refl)

pub has-later : (x : ℕ) (xs : List ℕ) (v : ℕ) → has xs v ≡ true → has (x ∷ xs) v ≡ true
unfolding has
has-later x xs v e = or_right (eqb v x) (has xs v) e

pub All-has : (P : ℕ → Type 0) (xs : List ℕ) (v : ℕ) → All P xs → has xs v ≡ true → P v
unfolding has
All-has P [] v h e = absurd (false≢true e)
All-has P (x ∷ xs) v h e = go (or_split (eqb v x) (has xs v) e) (All-has P xs v h.1)
  where
    go : (eqb v x ≡ true) ⊎ (has xs v ≡ true) → (has xs v ≡ true → P v) → P v
    go (inl q) ih = subst P (sym (eqb-true v x q)) h.0
    go (inr q) ih = ih q

pub has_get_d : (xs : List ℕ) (n d : ℕ) → n < length xs → has xs (get_or xs n d) ≡ true
has_get_d [] n d h = absurd (not-suc-le-zero h)
has_get_d (x ∷ xs) zero d h = has_here x xs
has_get_d (x ∷ xs) (suc n) d h = has-later x xs (get_or xs n d) (has_get_d xs n d (le_of_suc-le-suc h))

-- a number stands in a list exactly where it stands there at least once
pub has-times : (xs : List ℕ) (v : ℕ) → has xs v ≡ true → 1 ≤ times xs v
unfolding has times
has-times [] v e = absurd (false≢true e)
has-times (x ∷ xs) v e =
    ⊎_elim (λ (k : eqb v x ≡ true). let z = true-one (eqb v x) k in let y : 1 ≤ one (eqb v x) + times xs v = omega arith in y)
    (λ (k : has xs v ≡ true). let z = has-times xs v k in let y : 1 ≤ one (eqb v x) + times xs v = omega arith in y) (or_split (eqb v x) (has xs v) e)

pub times-has : (xs : List ℕ) (v : ℕ) → 1 ≤ times xs v → has xs v ≡ true
unfolding has times
times-has [] v h = absurd (not-suc-le-zero h)
times-has (x ∷ xs) v h = go (one (eqb v x)) refl (λ k. times-has xs v k)
  where
    go : (n : ℕ) → one (eqb v x) ≡ n → (1 ≤ times xs v → has xs v ≡ true) → eqb v x || has xs v ≡ true
    go zero e ih = or_right (eqb v x) (has xs v) (ih (omega arith))
    go (suc n) e ih = rw (one-true (eqb v x) (omega arith))

pub times-le : (xs : List ℕ) (v : ℕ) → times xs v ≤ length xs
unfolding times
times-le [] v = zero-le
times-le (x ∷ xs) v = omega (arith, one-le (eqb v x), times-le xs v)

-- ---- the front of a list, by position: as a loop over all positions finds it

module _ (f : ℕ → Bool) (d : ℕ) where
  pub all_take : (xs : List ℕ) (n : ℕ) → all f (take n xs) ≡ every (length xs) (λ k. leb n k || f (get_or xs k d))
  unfolding all every
  all_take [] n = ap (all f) (take-nil n)
  all_take (x ∷ xs) zero = sym (true-every (suc (length xs)) _ (λ k h. rw (le-leb 0 k zero-le)))
  all_take (x ∷ xs) (suc n) =
      ap (λ (b : Bool). f x && b) (all_take xs n)
      ∙ ap (λ (b : Bool). f x && b) (every-same (length xs) _ _ (λ k h. ap (λ (b : Bool). b || f (get_or xs k d)) (sym (leb-suc-suc n k))))
      ∙ ap (λ (b : Bool). (b || f x) && every (length xs) (λ k. leb (suc n) (suc k) || f (get_or xs k d))) (sym (leb-suc-zero n))
      ∙ sym (every-cons (length xs) (λ k. leb (suc n) k || f (get_or (x ∷ xs) k d)))

module _ (v d : ℕ) where
  pub has-take : (xs : List ℕ) (n : ℕ) → has (take n xs) v ≡ any (length xs) (λ k. ltb k n && eqb v (get_or xs k d))
  unfolding has any
  has-take [] n = ap (λ (l : List ℕ). has l v) (take-nil n)
  has-take (x ∷ xs) zero = sym (none (suc (length xs)) (λ k. eqb v (get_or (x ∷ xs) k d)))
    where
      none : (m : ℕ) (g : ℕ → Bool) → any m (λ k. ltb k 0 && g k) ≡ false
      none zero g = refl
      none (suc m) g = rw (none m g, le-ltb m 0 zero-le)
  has-take (x ∷ xs) (suc n) =
      ap (λ (b : Bool). eqb v x || b) (has-take xs n)
      ∙ ap (λ (b : Bool). eqb v x || b) (any_same (length xs) _ _ (λ k h. ap (λ (b : Bool). b && eqb v (get_or xs k d)) (sym (leb-suc-suc (suc k) n))))
      ∙ ap (λ (b : Bool). (b && eqb v x) || any (length xs) (λ k. ltb (suc k) (suc n) && eqb v (get_or xs k d))) (sym (lt-ltb 0 (suc n) (omega arith)))
      ∙ sym (any-cons (length xs) (λ k. ltb k (suc n) && eqb v (get_or (x ∷ xs) k d)))

  pub times-take : (xs : List ℕ) (n : ℕ) → times (take n xs) v ≡ sum (length xs) (λ k. one (ltb k n && eqb v (get_or xs k d)))
  unfolding times sum one
  times-take [] n = ap (λ (l : List ℕ). times l v) (take-nil n)
  times-take (x ∷ xs) zero = sym (none (suc (length xs)) (λ k. eqb v (get_or (x ∷ xs) k d)))
    where
      none : (m : ℕ) (g : ℕ → Bool) → sum m (λ k. one (ltb k 0 && g k)) ≡ 0
      none zero g = refl
      none (suc m) g = rw (none m g, le-ltb m 0 zero-le)
  times-take (x ∷ xs) (suc n) =
      ap (λ (m : ℕ). one (eqb v x) + m) (times-take xs n)
      ∙ ap (λ (m : ℕ). one (eqb v x) + m) (sum_same (length xs) _ _ (λ k h. ap (λ (b : Bool). one (b && eqb v (get_or xs k d))) (sym (leb-suc-suc (suc k) n))))
      ∙ ap (λ (b : Bool). one (b && eqb v x) + sum (length xs) (λ k. one (ltb (suc k) (suc n) && eqb v (get_or xs k d)))) (sym (lt-ltb 0 (suc n) (omega arith)))
      ∙ sym (sum-cons (length xs) (λ k. one (ltb k (suc n) && eqb v (get_or (x ∷ xs) k d))))
