-- The laws of tests, searches and sums: what a search that finds nothing says, what one that finds something says,
-- and how a loop that counts up builds one.
use Prim.Native.Nat.{ℕ, zero, suc, ◌+◌, ◌*◌, ◌≤◌, ◌<◌, zero-le, min}
use native.Mathlib.Nat.{eq-or-lt_of_le, not-suc-le-zero, le_of_suc-le-suc, le_trans, add-zero, add-suc, mul-zero, mul-suc, add-le-add, zero-mul, add-mul}
use native.Mathlib.Nat.{min-le_left, min-le_right, min-eq_left, min-eq_right}
use native.Mathlib.Numerals.{add-one}
use native.Mathlib.Omega.{arith}
use mathlib.Core.Path.{◌≡◌, refl, sym, ap, ap₂, ◌∙◌}
use mathlib.Core.Logic.{◌⊎◌, inl, inr, ◌≢◌, ◌↔◌, ⊎_elim}
use mathlib.Core.Bool as B
use mathlib.Core.Bool.{Bool, true, false, not, ◌&&◌, ◌||◌, and-true, and-false, and_assoc, or_assoc, and-or_distrib_left, false≢true, true≢false}
use lib.Dec.{eqb, ltb, leb}
use borrow.Author.Tests.{eqb-true, eqb-false, ltb-true, lt-ltb, le-ltb, leb-true, leb-false}
use Rattle.laws.specs.Search.{Found, clear, hit, test, and_then, under, first, every, any, sum, least}

-- ---- tests

pub decided : (b : Bool) → (b ≡ true) ⊎ (b ≡ false)
decided true = inl refl
decided false = inr refl

pub and_split : (a b : Bool) → a && b ≡ true → (a ≡ true) × (b ≡ true)
and_split true b e = (refl, e)
and_split false b e = absurd (false≢true e)

pub and-join : {a b : Bool} → a ≡ true → b ≡ true → a && b ≡ true
and-join {a} {b} e f = rw e f

pub or_split : (a b : Bool) → a || b ≡ true → (a ≡ true) ⊎ (b ≡ true)
or_split true b e = inl refl
or_split false b e = inr e

pub or_left : (a b : Bool) → a ≡ true → a || b ≡ true
or_left a b e = rw e

pub or_right : (a b : Bool) → b ≡ true → a || b ≡ true
or_right true b e = refl
or_right false b e = e

pub or-false : (a b : Bool) → a || b ≡ false → (a ≡ false) × (b ≡ false)
or-false true b e = absurd (true≢false e)
or-false false b e = (refl, e)

-- an implication as a test
pub implies : (a b : Bool) → not a || b ≡ true → a ≡ true → b ≡ true
implies true b e f = e
implies false b e f = absurd (false≢true f)

pub implied : (a b : Bool) → (a ≡ true → b ≡ true) → not a || b ≡ true
implied true b f = f refl
implied false b f = refl

-- two tests that pass at the same time are one test
pub same_test : (a b : Bool) → (a ≡ true → b ≡ true) → (b ≡ true → a ≡ true) → a ≡ b
same_test true b f g = sym (f refl)
same_test false true f g = g refl
same_test false false f g = refl

-- what is equal does not differ
pub differs : (a b : Bool) → a ≡ b → not (B.beq a b) ≡ true → true ≡ false
differs true true e k = sym k
differs true false e k = e
differs false true e k = sym e
differs false false e k = sym k

-- a test beside one of the numbers below n
pub below-none-or : (a : Bool) (x : ℕ) (b : Bool) → a ≡ a || (ltb x 0 && b)
below-none-or a x b = rw (le-ltb x 0 (omega arith)) (sym (B.or-false a))

pub below_or : (a : Bool) (x n : ℕ) (f : ℕ → Bool) → (a || (ltb x n && f x)) || (eqb x n && f n) ≡ a || (ltb x (n + 1) && f x)
below_or a x n f = go (decided (eqb x n))
  where
    go : (eqb x n ≡ true) ⊎ (eqb x n ≡ false) → (a || (ltb x n && f x)) || (eqb x n && f n) ≡ a || (ltb x (n + 1) && f x)
    go (inl e) = rw (e, eqb-true x n e, le-ltb n n (omega arith), lt-ltb n (n + 1) (omega arith), B.or-false a)
    go (inr e) = rw (e, below) (B.or-false (a || (ltb x (n + 1) && f x)))
      where
        below : ltb x n ≡ ltb x (n + 1)
        below =
            let other = eqb-false x n e in
            same_test _ _ (λ k. lt-ltb x (n + 1) (omega (arith, ltb-true x n k))) (λ k. lt-ltb x n (omega (arith, ltb-true x (n + 1) k, other)))

-- ---- one search

module _ {A : Type 0} where
  pub clear-hit : {B : Type 0} (a : A) → clear ≡ hit a → B
  clear-hit a e = absurd (let z : ◌≡◌ {A = ℕ} 0 1 = cc in omega arith)

  pub test-clear : (b : Bool) (a : A) → test b a ≡ clear → b ≡ true
  unfolding test
  test-clear true a e = refl
  test-clear false a e = clear-hit a (sym e)

  pub clear-test : (b : Bool) (a : A) → b ≡ true → test b a ≡ clear
  unfolding test
  clear-test b a e = rw (e, test)

  pub test-hit : (b : Bool) (a c : A) → test b a ≡ hit c → (b ≡ false) × (a ≡ c)
  unfolding test
  test-hit true a c e = clear-hit c e
  test-hit false a c e = (refl, cc)

  pub hit-test : (b : Bool) (a : A) → b ≡ false → test b a ≡ hit a
  unfolding test
  hit-test b a e = rw (e, test)

  pub and_then-split : (f g : Found A) → and_then f g ≡ clear → (f ≡ clear) × (g ≡ clear)
  unfolding and_then
  and_then-split clear g e = (refl, e)
  and_then-split (hit a) g e = clear-hit a (sym e)

  pub and_then-join : (f g : Found A) → f ≡ clear → g ≡ clear → and_then f g ≡ clear
  unfolding and_then
  and_then-join f g e h = rw (e, and_then) h

  pub and_then-hit : (f g : Found A) (c : A) → and_then f g ≡ hit c → (f ≡ hit c) ⊎ ((f ≡ clear) × (g ≡ hit c))
  unfolding and_then
  and_then-hit clear g c e = inr (refl, e)
  and_then-hit (hit a) g c e = inl e

  -- the first of two searches finds something, or is passed
  pub hit-and_then : (f g : Found A) (a : A) → f ≡ hit a → and_then f g ≡ hit a
  unfolding and_then
  hit-and_then f g a e = rw (e, and_then)

  pub clear-and_then : (f g : Found A) → f ≡ clear → and_then f g ≡ g
  unfolding and_then
  clear-and_then f g e = rw (e, and_then)

  pub under-clear : (b : Bool) (f : Found A) → under b f ≡ clear → b ≡ true → f ≡ clear
  unfolding under
  under-clear true f e h = e
  under-clear false f e h = absurd (false≢true h)

  pub clear-under : (b : Bool) (f : Found A) → (b ≡ true → f ≡ clear) → under b f ≡ clear
  unfolding under
  clear-under true f h = h refl
  clear-under false f h = refl

  pub under-hit : (b : Bool) (f : Found A) (c : A) → under b f ≡ hit c → (b ≡ true) × (f ≡ hit c)
  unfolding under
  under-hit true f c e = (refl, e)
  under-hit false f c e = clear-hit c e

  -- ---- a search in order

  -- a loop begins, passes n, stops at n
  pub first-zero : (f : ℕ → Found A) → first 0 f ≡ clear
  unfolding first
  first-zero f = refl

  pub first-pass : (f : ℕ → Found A) (n : ℕ) → first n f ≡ clear → f n ≡ clear → first (n + 1) f ≡ clear
  unfolding first
  first-pass f n e h = rw (add-one, first) (and_then-join (first n f) (f n) e h)

  pub first-here : (f : ℕ → Found A) (n m : ℕ) (a : A) → first n f ≡ clear → f n ≡ hit a → n < m → first m f ≡ hit a
  unfolding first
  first-here f n zero a e h l = absurd (not-suc-le-zero l)
  first-here f n (suc m) a e h l =
      ⊎_elim
      (λ (q : n ≡ m). rw (← q) (clear-and_then (first n f) (f n) e ∙ h))
      (λ (k : n < m). hit-and_then (first m f) (f m) a (first-here f n m a e h k))
      (eq-or-lt_of_le (le_of_suc-le-suc l))

  -- nothing is found exactly where nothing is found at any number
  pub first-clear : (n : ℕ) (f : ℕ → Found A) → first n f ≡ clear → (j : ℕ) → j < n → f j ≡ clear
  unfolding first
  first-clear zero f e j h = absurd (not-suc-le-zero h)
  first-clear (suc n) f e j h =
      let s = and_then-split (first n f) (f n) e in
      ⊎_elim (λ (q : j ≡ n). rw q s.1) (λ (k : j < n). first-clear n f s.0 j k) (eq-or-lt_of_le (le_of_suc-le-suc h))

  pub clear_first : (n : ℕ) (f : ℕ → Found A) → ((j : ℕ) → j < n → f j ≡ clear) → first n f ≡ clear
  unfolding first
  clear_first zero f h = refl
  clear_first (suc n) f h = and_then-join (first n f) (f n) (clear_first n f (λ j l. h j (omega arith))) (h n (omega arith))

  -- what is found is found at the lowest number that finds anything
  pub first-hit : (n : ℕ) (f : ℕ → Found A) (a : A) → first n f ≡ hit a
      → (j : ℕ) × (j < n) × (f j ≡ hit a) × ((l : ℕ) → l < j → f l ≡ clear)
  unfolding first
  first-hit zero f a e = clear-hit a e
  first-hit (suc n) f a e = go (λ q. first-hit n f a q) (and_then-hit (first n f) (f n) a e)
    where
      go : (first n f ≡ hit a → (j : ℕ) × (j < n) × (f j ≡ hit a) × ((l : ℕ) → l < j → f l ≡ clear))
          → (first n f ≡ hit a) ⊎ ((first n f ≡ clear) × (f n ≡ hit a))
          → (j : ℕ) × (j < suc n) × (f j ≡ hit a) × ((l : ℕ) → l < j → f l ≡ clear)
      go rest (inl q) = let s = rest q in (s.0, omega (arith, s.1), s.2, s.3)
      go rest (inr q) = (n, omega arith, q.1, λ l h. first-clear n f q.0 l h)

  pub first-same : (n : ℕ) (f g : ℕ → Found A) → ((j : ℕ) → j < n → f j ≡ g j) → first n f ≡ first n g
  unfolding first
  first-same zero f g h = refl
  first-same (suc n) f g h = ap₂ and_then (first-same n f g (λ j l. h j (omega arith))) (h n (omega arith))

-- ---- `every` and `any`

pub every-zero : (f : ℕ → Bool) → every 0 f ≡ true
unfolding every
every-zero f = refl

pub every-step : (f : ℕ → Bool) (n : ℕ) → every (n + 1) f ≡ every n f && f n
unfolding every
every-step f n = rw (add-one, every)

pub every_true : (n : ℕ) (f : ℕ → Bool) → every n f ≡ true → (j : ℕ) → j < n → f j ≡ true
unfolding every
every_true zero f e j h = absurd (not-suc-le-zero h)
every_true (suc n) f e j h =
    let s = and_split (every n f) (f n) e in
    ⊎_elim (λ (q : j ≡ n). rw q s.1) (λ (k : j < n). every_true n f s.0 j k) (eq-or-lt_of_le (le_of_suc-le-suc h))

pub true-every : (n : ℕ) (f : ℕ → Bool) → ((j : ℕ) → j < n → f j ≡ true) → every n f ≡ true
unfolding every
true-every zero f h = refl
true-every (suc n) f h = and-join (true-every n f (λ j l. h j (omega arith))) (h n (omega arith))

-- a test of each number below n, as an iterator's `all` tells it
pub every-told : (n : ℕ) (f : ℕ → Bool) {b : Bool} → (b ≡ true ↔ ((j : ℕ) → j < n → f j ≡ true)) → b ≡ every n f
every-told n f {b} e = same_test b (every n f) (λ h. true-every n f (e.0 h)) (λ h. e.1 (every_true n f h))

-- a loop passes n
pub every-pass : (f : ℕ → Bool) (n : ℕ) → every n f ≡ true → f n ≡ true → every (n + 1) f ≡ true
every-pass f n e h = every-step f n ∙ and-join e h

-- a test that fails at a number
pub every-false : (n : ℕ) (f : ℕ → Bool) → every n f ≡ false → (j : ℕ) × (j < n) × (f j ≡ false)
unfolding every
every-false zero f e = absurd (true≢false e)
every-false (suc n) f e = go (λ q. every-false n f q) (decided (every n f))
  where
    go : (every n f ≡ false → (j : ℕ) × (j < n) × (f j ≡ false)) → (every n f ≡ true) ⊎ (every n f ≡ false) → (j : ℕ) × (j < suc n) × (f j ≡ false)
    go rest (inl q) = (n, omega arith, rw q at e)
    go rest (inr q) = let s = rest q in (s.0, omega (arith, s.1), s.2)

pub false-every : (n : ℕ) (f : ℕ → Bool) (j : ℕ) → j < n → f j ≡ false → every n f ≡ false
false-every n f j h e =
    ⊎_elim (λ (q : every n f ≡ true). absurd (true≢false (sym (every_true n f q j h) ∙ e))) (λ (q : every n f ≡ false). q) (decided (every n f))

pub any-zero : (f : ℕ → Bool) → any 0 f ≡ false
unfolding any
any-zero f = refl

pub any_step : (f : ℕ → Bool) (n : ℕ) → any (n + 1) f ≡ any n f || f n
unfolding any
any_step f n = rw (add-one, any)

pub any-true : (n : ℕ) (f : ℕ → Bool) → any n f ≡ true → (j : ℕ) × (j < n) × (f j ≡ true)
unfolding any
any-true zero f e = absurd (false≢true e)
any-true (suc n) f e = go (λ q. any-true n f q) (or_split (any n f) (f n) e)
  where
    go : (any n f ≡ true → (j : ℕ) × (j < n) × (f j ≡ true)) → (any n f ≡ true) ⊎ (f n ≡ true) → (j : ℕ) × (j < suc n) × (f j ≡ true)
    go rest (inl q) = let s = rest q in (s.0, omega (arith, s.1), s.2)
    go rest (inr q) = (n, omega arith, q)

pub true-any : (n : ℕ) (f : ℕ → Bool) (j : ℕ) → j < n → f j ≡ true → any n f ≡ true
unfolding any
true-any zero f j h e = absurd (not-suc-le-zero h)
true-any (suc n) f j h e =
    ⊎_elim (λ (q : j ≡ n). or_right (any n f) (f n) (rw (← q) e)) (λ (k : j < n). or_left (any n f) (f n) (true-any n f j k e))
    (eq-or-lt_of_le (le_of_suc-le-suc h))

pub any_same : (n : ℕ) (f g : ℕ → Bool) → ((j : ℕ) → j < n → f j ≡ g j) → any n f ≡ any n g
unfolding any
any_same zero f g h = refl
any_same (suc n) f g h = ap₂ ◌||◌ (any_same n f g (λ j l. h j (omega arith))) (h n (omega arith))

pub every-same : (n : ℕ) (f g : ℕ → Bool) → ((j : ℕ) → j < n → f j ≡ g j) → every n f ≡ every n g
unfolding every
every-same zero f g h = refl
every-same (suc n) f g h = ap₂ ◌&&◌ (every-same n f g (λ j l. h j (omega arith))) (h n (omega arith))

-- the lowest number apart from the others
pub every-cons : (n : ℕ) (f : ℕ → Bool) → every (suc n) f ≡ f 0 && every n (λ k. f (suc k))
unfolding every
every-cons zero f = go (f 0)
  where
    go : (b : Bool) → true && b ≡ b && true
    go true = refl
    go false = refl
every-cons (suc n) f = ap (λ (b : Bool). b && f (suc n)) (every-cons n f) ∙ go (f 0) (every n (λ k. f (suc k))) (f (suc n))
  where
    go : (a b c : Bool) → (a && b) && c ≡ a && (b && c)
    go true b c = refl
    go false b c = refl

pub any-cons : (n : ℕ) (f : ℕ → Bool) → any (suc n) f ≡ f 0 || any n (λ k. f (suc k))
unfolding any
any-cons zero f = go (f 0)
  where
    go : (b : Bool) → false || b ≡ b || false
    go true = refl
    go false = refl
any-cons (suc n) f = ap (λ (b : Bool). b || f (suc n)) (any-cons n f) ∙ go (f 0) (any n (λ k. f (suc k))) (f (suc n))
  where
    go : (a b c : Bool) → (a || b) || c ≡ a || (b || c)
    go true b c = refl
    go false b c = refl

-- a test that does not depend on the number
pub any-under : (n : ℕ) (b : Bool) (f : ℕ → Bool) → any n (λ k. b && f k) ≡ b && any n f
unfolding any
any-under zero b f = sym (and-false b)
any-under (suc n) b f = ap (λ (c : Bool). c || (b && f n)) (any-under n b f) ∙ sym (and-or_distrib_left b (any n f) (f n))

-- a test that passes nowhere
pub any_false : (n : ℕ) (f : ℕ → Bool) → any n f ≡ false → (j : ℕ) → j < n → f j ≡ false
unfolding any
any_false zero f e j h = absurd (not-suc-le-zero h)
any_false (suc n) f e j h =
    let s = or-false (any n f) (f n) e in
    ⊎_elim (λ (q : j ≡ n). rw q s.1) (λ (k : j < n). any_false n f s.0 j k) (eq-or-lt_of_le (le_of_suc-le-suc h))

-- a test fails everywhere exactly where it passes nowhere
pub every-not : (n : ℕ) (f : ℕ → Bool) → every n (λ j. not (f j)) ≡ not (any n f)
unfolding every any
every-not zero f = refl
every-not (suc n) f = ap (λ (b : Bool). b && not (f n)) (every-not n f) ∙ go (any n f) (f n)
  where
    go : (a b : Bool) → not a && not b ≡ not (a || b)
    go true b = refl
    go false b = refl

-- the first m numbers apart from the others
pub every-split : (m n : ℕ) (f : ℕ → Bool) → every (m + n) f ≡ every m f && every n (λ k. f (m + k))
unfolding every
every-split m zero f = ap (λ (k : ℕ). every k f) (add-zero m) ∙ sym (and-true (every m f))
every-split m (suc n) f =
    ap (λ (k : ℕ). every k f) (add-suc m n)
    ∙ ap (λ (b : Bool). b && f (m + n)) (every-split m n f)
    ∙ and_assoc (every m f) (every n (λ k. f (m + k))) (f (m + n))

pub any-split : (m n : ℕ) (f : ℕ → Bool) → any (m + n) f ≡ any m f || any n (λ k. f (m + k))
unfolding any
any-split m zero f = ap (λ (k : ℕ). any k f) (add-zero m) ∙ sym (B.or-false (any m f))
any-split m (suc n) f =
    ap (λ (k : ℕ). any k f) (add-suc m n)
    ∙ ap (λ (b : Bool). b || f (m + n)) (any-split m n f)
    ∙ or_assoc (any m f) (any n (λ k. f (m + k))) (f (m + n))

-- n blocks of m numbers each
pub every-blocks : (m n : ℕ) (f : ℕ → Bool) → every (m * n) f ≡ every n (λ j. every m (λ k. f (m * j + k)))
unfolding every
every-blocks m zero f = ap (λ (k : ℕ). every k f) (mul-zero m)
every-blocks m (suc n) f =
    ap (λ (k : ℕ). every k f) (mul-suc m n)
    ∙ every-split (m * n) m f
    ∙ ap (λ (b : Bool). b && every m (λ k. f (m * n + k))) (every-blocks m n f)

pub any-blocks : (m n : ℕ) (f : ℕ → Bool) → any (m * n) f ≡ any n (λ j. any m (λ k. f (m * j + k)))
unfolding any
any-blocks m zero f = ap (λ (k : ℕ). any k f) (mul-zero m)
any-blocks m (suc n) f =
    ap (λ (k : ℕ). any k f) (mul-suc m n)
    ∙ any-split (m * n) m f
    ∙ ap (λ (b : Bool). b || any m (λ k. f (m * n + k))) (any-blocks m n f)

-- ---- sums

pub sum_same : (n : ℕ) (f g : ℕ → ℕ) → ((j : ℕ) → j < n → f j ≡ g j) → sum n f ≡ sum n g
unfolding sum
sum_same zero f g h = refl
sum_same (suc n) f g h = ap₂ ◌+◌ (sum_same n f g (λ j l. h j (omega arith))) (h n (omega arith))

pub sum-cons : (n : ℕ) (f : ℕ → ℕ) → sum (suc n) f ≡ f 0 + sum n (λ k. f (suc k))
unfolding sum
sum-cons zero f = omega arith
sum-cons (suc n) f = let e = sum-cons n f in omega arith

pub sum-zero : (f : ℕ → ℕ) → sum 0 f ≡ 0
unfolding sum
sum-zero f = refl

pub sum_step : (f : ℕ → ℕ) (n : ℕ) → sum (n + 1) f ≡ sum n f + f n
unfolding sum
sum_step f n = rw (add-one, sum)

-- a bound on each term bounds the sum
pub sum_bound : (n : ℕ) (f : ℕ → ℕ) (c : ℕ) → ((j : ℕ) → f j ≤ c) → sum n f ≤ c * n
unfolding sum
sum_bound zero f c h = zero-le
sum_bound (suc n) f c h = rw mul-suc (add-le-add (sum_bound n f c h) (h n))

-- the sum is at least each term, and at least two different terms together
pub sum_one : (n : ℕ) (f : ℕ → ℕ) (i : ℕ) → i < n → f i ≤ sum n f
unfolding sum
sum_one zero f i h = absurd (not-suc-le-zero h)
sum_one (suc n) f i h =
    ⊎_elim (λ (q : i ≡ n). rw q (omega arith)) (λ (k : i < n). let z = sum_one n f i k in let y : f i ≤ sum n f + f n = omega arith in y)
    (eq-or-lt_of_le (le_of_suc-le-suc h))

pub sum-two : (n : ℕ) (f : ℕ → ℕ) (i j : ℕ) → i ≢ j → i < n → j < n → f i + f j ≤ sum n f
unfolding sum
sum-two zero f i j ne h k = absurd (not-suc-le-zero h)
sum-two (suc n) f i j ne h k = go (λ l m. sum-two n f i j ne l m) (eq-or-lt_of_le (le_of_suc-le-suc h)) (eq-or-lt_of_le (le_of_suc-le-suc k))
  where
    go : (i < n → j < n → f i + f j ≤ sum n f) → (i ≡ n) ⊎ (i < n) → (j ≡ n) ⊎ (j < n) → f i + f j ≤ sum n f + f n
    go rest (inl e) (inl d) = absurd (ne (e ∙ sym d))
    go rest (inl e) (inr d) = let z = sum_one n f j d in rw e (omega arith)
    go rest (inr e) (inl d) = let z = sum_one n f i e in rw d (omega arith)
    go rest (inr e) (inr d) = let z = rest e d in omega arith

-- some term of a sum that is not 0 is not 0
pub sum-some : (n : ℕ) (f : ℕ → ℕ) → 0 < sum n f → (j : ℕ) × (j < n) × (0 < f j)
unfolding sum
sum-some zero f h = absurd (not-suc-le-zero h)
sum-some (suc n) f h = go (λ k. sum-some n f k) (sum n f) refl
  where
    go : (0 < sum n f → (j : ℕ) × (j < n) × (0 < f j)) → (s : ℕ) → sum n f ≡ s → (j : ℕ) × (j < suc n) × (0 < f j)
    go rest zero e = (n, omega arith, omega arith)
    go rest (suc s) e = let r = rest (omega arith) in (r.0, omega (arith, r.1), r.2)

-- sums of sums, of larger terms, of multiples, and of a single term
pub sum-add : (n : ℕ) (f g : ℕ → ℕ) → sum n (λ j. f j + g j) ≡ sum n f + sum n g
unfolding sum
sum-add zero f g = refl
sum-add (suc n) f g = let e = sum-add n f g in omega arith

pub sum_mono : (n : ℕ) (f g : ℕ → ℕ) → ((j : ℕ) → j < n → f j ≤ g j) → sum n f ≤ sum n g
unfolding sum
sum_mono zero f g h = zero-le
sum_mono (suc n) f g h = add-le-add (sum_mono n f g (λ j l. h j (omega arith))) (h n (omega arith))

pub sum-mul : (n : ℕ) (f : ℕ → ℕ) (x : ℕ) → sum n (λ j. f j * x) ≡ sum n f * x
unfolding sum
sum-mul zero f x = sym (zero-mul x)
sum-mul (suc n) f x = ap (λ (y : ℕ). y + f n * x) (sum-mul n f x) ∙ sym (add-mul (sum n f) (f n) x)

pub sum_zeros : (n : ℕ) → sum n (λ j. 0) ≡ 0
unfolding sum
sum_zeros zero = refl
sum_zeros (suc n) = let e = sum_zeros n in omega arith

pub sum-swap : (m n : ℕ) (f : ℕ → ℕ → ℕ) → sum m (λ i. sum n (λ j. f i j)) ≡ sum n (λ j. sum m (λ i. f i j))
unfolding sum
sum-swap zero n f = sym (sum_zeros n)
sum-swap (suc m) n f =
    ap (λ (x : ℕ). x + sum n (λ j. f m j)) (sum-swap m n f) ∙ sym (sum-add n (λ j. sum m (λ i. f i j)) (λ j. f m j))

-- only one term is not 0
pub sum-only : (n : ℕ) (f : ℕ → ℕ) (i : ℕ) → i < n → ((j : ℕ) → j ≢ i → f j ≡ 0) → sum n f ≡ f i
unfolding sum
sum-only zero f i h z = absurd (not-suc-le-zero h)
sum-only (suc n) f i h z = go (λ l. sum-only n f i l z) (eq-or-lt_of_le (le_of_suc-le-suc h))
  where
    go : (i < n → sum n f ≡ f i) → (i ≡ n) ⊎ (i < n) → sum n f + f n ≡ f i
    go rest (inl q) =
        let e = sum_same n f (λ j. 0) (λ j l. z j (λ p. absurd (omega arith))) ∙ sum_zeros n in
        let r = ap f q in
        omega arith
    go rest (inr l) =
        let e = rest l in
        let r = z n (λ p. absurd (omega arith)) in
        omega arith

-- ---- the least of numbers

-- it is no more than any of them
pub least-le : (n : ℕ) (p : ℕ → Bool) (f : ℕ → ℕ) (x j : ℕ) → j < n → p j ≡ true → least n p f x ≤ f j
unfolding least
least-le zero p f x j h e = absurd (not-suc-le-zero h)
least-le (suc n) p f x j h e = go (λ l. least-le n p f x j l e) (p n) refl (eq-or-lt_of_le (le_of_suc-le-suc h))
  where
    go : (j < n → least n p f x ≤ f j) → (b : Bool) → p n ≡ b → (j ≡ n) ⊎ (j < n) → B.cond b (min (f n) (least n p f x)) (least n p f x) ≤ f j
    go rest true q (inl i) = rw i (min-le_left (f n) (least n p f x))
    go rest true q (inr l) = le_trans (min-le_right (f n) (least n p f x)) (rest l)
    go rest false q (inl i) = absurd (true≢false (sym e ∙ ap p i ∙ q))
    go rest false q (inr l) = rest l

-- and it is one of them
abbrev OneOf : ℕ → (ℕ → Bool) → (ℕ → ℕ) → ℕ → ℕ → Type 0
OneOf n p f x y = (y ≡ x) ⊎ ((j : ℕ) × (j < n) × (p j ≡ true) × (y ≡ f j))

pub least-is : (n : ℕ) (p : ℕ → Bool) (f : ℕ → ℕ) (x : ℕ) → (least n p f x ≡ x) ⊎ ((j : ℕ) × (j < n) × (p j ≡ true) × (least n p f x ≡ f j))
unfolding least
least-is zero p f x = inl refl
least-is (suc n) p f x = go (least-is n p f x) (p n) refl
  where
    more : (y : ℕ) → y ≡ least n p f x → OneOf n p f x (least n p f x) → OneOf (suc n) p f x y
    more y e (inl q) = inl (e ∙ q)
    more y e (inr (j, l, t, q)) = inr (j, omega arith, t, e ∙ q)

    go : OneOf n p f x (least n p f x) → (b : Bool) → p n ≡ b → OneOf (suc n) p f x (B.cond b (min (f n) (least n p f x)) (least n p f x))
    go rest true q =
        ⊎_elim (λ l. inr (n, omega arith, q, min-eq_left (leb-true (f n) _ l)))
        (λ l. let h = leb-false (f n) (least n p f x) l in more _ (min-eq_right (omega arith)) rest) (decided (leb (f n) (least n p f x)))
    go rest false q = more _ refl rest

pub least-same : (n : ℕ) {p q : ℕ → Bool} {f g : ℕ → ℕ} {x y : ℕ} → ((j : ℕ) → j < n → p j ≡ q j) → ((j : ℕ) → j < n → f j ≡ g j) → x ≡ y
    → least n p f x ≡ least n q g y
unfolding least
least-same zero hp hf e = e
least-same (suc n) hp hf e =
    let rest = least-same n (λ j l. hp j (omega arith)) (λ j l. hf j (omega arith)) e in
    rw (hp n (omega arith), hf n (omega arith), rest)
