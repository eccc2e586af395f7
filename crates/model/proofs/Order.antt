-- The order of claims (02, request ii) is strict, so claims that rise have no repeat, and total: of two different claims one comes after the other.
-- Those of one set lie side by side, and which they are fixes the place of each.
use Prim.Native.Nat.{ℕ, zero, suc, ◌≤◌, ◌<◌}
use native.Mathlib.Nat.{eq-or-lt_of_le, not-suc-le-zero, le_of_suc-le-suc, le_refl}
use native.Mathlib.Omega.{arith}
use mathlib.Core.Path.{◌≡◌, sym, ap, ◌∙◌, subst}
use mathlib.Core.Logic.{◌⊎◌, inl, inr, ⊎_elim}
use mathlib.Core.Bool.{Bool, true, false, ◌&&◌}
use lib.Dec.{eqb, leb, ltb}
use borrow.Author.Tests.{eqb-true, eq-eqb, ltb-true, lt-ltb, ltb-false, leb-true, leb-false}
use Rattle.laws.proofs.Search.{decided, and_split, and-join, or_split, or_left, or_right}
use Rattle.model.specs.declared.Claim.{Claim}
use Rattle.model.specs.Rules.{Table, rises, comes_after, Each, Rising}
use Rattle.model.specs.Same.{Among, SameClaims}

-- ---- one number after another

rises-how : (m n : ℕ) (b : Bool) → rises m n b ≡ true → (m < n) ⊎ ((m ≡ n) × (b ≡ true))
rises-how m n b e =
    ⊎_elim (λ l. inl (ltb-true m n l)) (λ q. let s = and_split (eqb m n) b q in inr (eqb-true m n s.0, s.1)) (or_split (ltb m n) (eqb m n && b) e)

rises-less : (m n : ℕ) (b : Bool) → m < n → rises m n b ≡ true
rises-less m n b l = or_left (ltb m n) (eqb m n && b) (lt-ltb m n l)

rises-trans : (l m n : ℕ) (a b c : Bool) → (a ≡ true → b ≡ true → c ≡ true) → rises l m a ≡ true → rises m n b ≡ true → rises l n c ≡ true
rises-trans l m n a b c next h k = go (rises-how l m a h) (rises-how m n b k)
  where
    go : (l < m) ⊎ ((l ≡ m) × (a ≡ true)) → (m < n) ⊎ ((m ≡ n) × (b ≡ true)) → rises l n c ≡ true
    go (inl x) (inl y) = rises-less l n c (omega (arith, x, y))
    go (inl x) (inr y) = rises-less l n c (omega (arith, x, y.0))
    go (inr x) (inl y) = rises-less l n c (omega (arith, x.0, y))
    go (inr x) (inr y) = or_right (ltb l n) (eqb l n && c) (and-join (eq-eqb l n (x.0 ∙ y.0)) (next x.1 y.1))

rises-strict : (m : ℕ) (b : Bool) → (b ≡ true → ⊥) → rises m m b ≡ true → ⊥
rises-strict m b next e = ⊎_elim (λ l. absurd (omega (arith, l))) (λ q. next q.1) (rises-how m m b e)

-- ---- one claim after another

-- by the balance, by most and balance, by agent, most and balance
abbrev by_balance : Claim → Claim → Bool
by_balance y x = ltb x.balance y.balance

abbrev by_most : Claim → Claim → Bool
by_most y x = rises x.most y.most (by_balance y x)

abbrev by_agent : Claim → Claim → Bool
by_agent y x = rises x.agent y.agent (by_most y x)

pub comes-trans : (x y w : Claim) → comes_after y x ≡ true → comes_after w y ≡ true → comes_after w x ≡ true
comes-trans x y w =
    rises-trans x.set y.set w.set (by_agent y x) (by_agent w y) (by_agent w x)
    (rises-trans x.agent y.agent w.agent (by_most y x) (by_most w y) (by_most w x)
    (rises-trans x.most y.most w.most (by_balance y x) (by_balance w y) (by_balance w x)
    (λ h k.
    let l = ltb-true x.balance y.balance h in
    let m = ltb-true y.balance w.balance k in
    lt-ltb x.balance w.balance (omega (arith, l, m)))))

-- no claim comes after itself
pub comes-strict : (x : Claim) → comes_after x x ≡ true → ⊥
comes-strict x =
    rises-strict x.set (by_agent x x) (rises-strict x.agent (by_most x x) (rises-strict x.most (by_balance x x)
    (λ e. let l = ltb-true x.balance x.balance e in absurd (omega (arith, l)))))

-- of two numbers that differ one rises, either way round; of equal ones what follows decides
rises-total : (m n : ℕ) (b c : Bool) {P : Type 0} → (b ≡ true) ⊎ ((c ≡ true) ⊎ P) → (rises m n b ≡ true) ⊎ ((rises n m c ≡ true) ⊎ ((m ≡ n) × P))
rises-total m n b c {P} next = go (decided (ltb m n)) (decided (ltb n m))
  where
    equal : m ≡ n → (rises m n b ≡ true) ⊎ ((rises n m c ≡ true) ⊎ ((m ≡ n) × P))
    equal e =
        ⊎_elim (λ h. inl (or_right (ltb m n) (eqb m n && b) (and-join (eq-eqb m n e) h)))
        (⊎_elim (λ h. inr (inl (or_right (ltb n m) (eqb n m && c) (and-join (eq-eqb n m (sym e)) h)))) (λ p. inr (inr (e, p)))) next

    go : (ltb m n ≡ true) ⊎ (ltb m n ≡ false) → (ltb n m ≡ true) ⊎ (ltb n m ≡ false) → (rises m n b ≡ true) ⊎ ((rises n m c ≡ true) ⊎ ((m ≡ n) × P))
    go (inl q) r = inl (rises-less m n b (ltb-true m n q))
    go (inr q) (inl r) = inr (inl (rises-less n m c (ltb-true n m r)))
    go (inr q) (inr r) = let x = ltb-false m n q in let y = ltb-false n m r in equal (omega (arith, x, y))

-- of two claims that differ in any number one comes after the other
pub comes-total : (x y : Claim) → (comes_after y x ≡ true) ⊎ ((comes_after x y ≡ true) ⊎ (x ≡ y))
comes-total x y =
    ⊎_elim inl (λ k. inr (⊎_elim inl (λ p. inr (same p.0 p.1.0 p.1.1.0 p.1.1.1)) k))
    (rises-total x.set y.set (by_agent y x) (by_agent x y)
    (rises-total x.agent y.agent (by_most y x) (by_most x y)
    (rises-total x.most y.most (by_balance y x) (by_balance x y) (last (decided (by_balance y x)) (decided (by_balance x y))))))
  where
    same : x.set ≡ y.set → x.agent ≡ y.agent → x.most ≡ y.most → x.balance ≡ y.balance → x ≡ y
    same s a m b = λ i. record { agent = a i; most = m i; balance = b i; set = s i }

    last : (by_balance y x ≡ true) ⊎ (by_balance y x ≡ false) → (by_balance x y ≡ true) ⊎ (by_balance x y ≡ false)
        → (by_balance y x ≡ true) ⊎ ((by_balance x y ≡ true) ⊎ (x.balance ≡ y.balance))
    last (inl q) r = inl q
    last (inr q) (inl r) = inr (inl r)
    last (inr q) (inr r) =
        let m = ltb-false x.balance y.balance q in
        let n = ltb-false y.balance x.balance r in
        inr (inr (omega (arith, m, n)))

-- ---- claims that rise

module _ (t : Table) (rise : Rising t) where
  pub later-after : (c d : ℕ) → c < d → d < t.claims → comes_after (t.claim d) (t.claim c) ≡ true
  later-after c zero h l = absurd (not-suc-le-zero h)
  later-after c (suc d) h l =
      ⊎_elim (λ (q : c ≡ d). subst (λ x. comes_after (t.claim (suc d)) (t.claim x) ≡ true) (sym q) (rise d l))
      (λ (k : c < d). comes-trans (t.claim c) (t.claim d) (t.claim (suc d)) (later-after c d k (omega arith)) (rise d l))
      (eq-or-lt_of_le (le_of_suc-le-suc h))

  -- "so repeats go too"
  pub no-repeat : (c d : ℕ) → c < d → d < t.claims → t.claim c ≡ t.claim d → ⊥
  no-repeat c d h l e = comes-strict (t.claim d) (subst (λ x. comes_after (t.claim d) x ≡ true) e (later-after c d h l))

  -- a set's claims lie side by side, since set numbers rise
  pub sets-rise : (c d : ℕ) → c ≤ d → d < t.claims → (t.claim c).set ≤ (t.claim d).set
  sets-rise c d h l = ⊎_elim same after (eq-or-lt_of_le h)
    where
      same : c ≡ d → (t.claim c).set ≤ (t.claim d).set
      same q = subst (λ x. (t.claim c).set ≤ (t.claim x).set) q (le_refl _)

      after : c < d → (t.claim c).set ≤ (t.claim d).set
      after k =
          ⊎_elim (λ m. omega (arith, m)) (λ m. omega (arith, m.0))
          (rises-how (t.claim c).set (t.claim d).set (by_agent (t.claim d) (t.claim c)) (later-after c d k l))

-- ---- one order

-- claims that rise, and of which all below n are another table's: claim n is that table's claim n, or comes after it
ahead : (t u : Table) → Rising t → Rising u → (n : ℕ) → n < t.claims → n < u.claims → Each n (λ c. t.claim c ≡ u.claim c) → Among u (t.claim n)
    → (t.claim n ≡ u.claim n) ⊎ (comes_after (t.claim n) (u.claim n) ≡ true)
ahead t u rt ru n h k below (j, l, e) = go (decided (leb j n))
  where
    go : (leb j n ≡ true) ⊎ (leb j n ≡ false) → (t.claim n ≡ u.claim n) ⊎ (comes_after (t.claim n) (u.claim n) ≡ true)
    go (inl q) =
        ⊎_elim (λ (s : j ≡ n). inl (sym e ∙ ap u.claim s)) (λ (s : j < n). absurd (no-repeat t rt j n s h (below j s ∙ e)))
        (eq-or-lt_of_le (leb-true j n q))
    go (inr q) = inr (subst (λ x. comes_after x (u.claim n) ≡ true) e (later-after u ru n j (leb-false j n q) l))

module _ (t u : Table) (rt : Rising t) (ru : Rising u) (same : SameClaims t u) where
  next : (n : ℕ) → n < t.claims → n < u.claims → Each n (λ c. t.claim c ≡ u.claim c) → t.claim n ≡ u.claim n
  next n h k below = go (ahead t u rt ru n h k below (same.there n h)) (ahead u t ru rt n k h (λ c l. sym (below c l)) (same.back n k))
    where
      go : (t.claim n ≡ u.claim n) ⊎ (comes_after (t.claim n) (u.claim n) ≡ true) → (u.claim n ≡ t.claim n) ⊎ (comes_after (u.claim n) (t.claim n) ≡ true)
          → t.claim n ≡ u.claim n
      go (inl e) q = e
      go (inr p) (inl e) = sym e
      go (inr p) (inr q) = absurd (comes-strict (t.claim n) (comes-trans (t.claim n) (u.claim n) (t.claim n) q p))

  same-below : (n : ℕ) → n ≤ t.claims → n ≤ u.claims → Each n (λ c. t.claim c ≡ u.claim c)
  same-below zero h k c l = absurd (not-suc-le-zero l)
  same-below (suc n) h k c l =
      let rest = same-below n (omega arith) (omega arith) in
      ⊎_elim (λ (q : c ≡ n). subst (λ x. t.claim x ≡ u.claim x) (sym q) (next n h k rest)) (λ (m : c < n). rest c m) (eq-or-lt_of_le (le_of_suc-le-suc l))

-- where all claims of a table are another's, and those that both have are the same, it has no more
no_more : (t u : Table) → Rising t → Each u.claims (λ c. t.claim c ≡ u.claim c) → Each t.claims (λ c. Among u (t.claim c)) → t.claims ≤ u.claims
no_more t u rise below there = go (decided (leb t.claims u.claims))
  where
    go : (leb t.claims u.claims ≡ true) ⊎ (leb t.claims u.claims ≡ false) → t.claims ≤ u.claims
    go (inl q) = leb-true _ _ q
    go (inr q) =
        let h : u.claims < t.claims = leb-false _ _ q in
        let a = there u.claims h in
        absurd (no-repeat t rise a.0 u.claims a.1 h (below a.0 a.1 ∙ a.2))

-- the same claims in the same order
pub one-order : (t u : Table) → Rising t → Rising u → SameClaims t u → (t.claims ≡ u.claims) × Each t.claims (λ c. t.claim c ≡ u.claim c)
one-order t u rt ru same = go (decided (leb t.claims u.claims))
  where
    below : (n : ℕ) → n ≤ t.claims → n ≤ u.claims → Each n (λ c. t.claim c ≡ u.claim c)
    below = same-below t u rt ru same

    go : (leb t.claims u.claims ≡ true) ⊎ (leb t.claims u.claims ≡ false)
        → (t.claims ≡ u.claims) × Each t.claims (λ c. t.claim c ≡ u.claim c)
    go (inl q) =
        let h = leb-true t.claims u.claims q in
        let e = below t.claims (le_refl _) h in
        let m = no_more u t ru (λ c l. sym (e c l)) same.back in
        (omega (arith, h, m), e)
    go (inr q) =
        let h = leb-false t.claims u.claims q in
        let m = no_more t u rt (below u.claims (omega (arith, h)) (le_refl _)) same.there in
        absurd (omega (arith, h, m))
