-- Refusal 30 by each set's first claim, refusal 31 by neighbours, and what 21, 30 and 31 leave of the claims.
use Prim.Native.Nat.{ℕ, zero, suc, ◌-◌, ◌≤◌, ◌<◌}
use native.Mathlib.Nat.{le_refl, eq-or-lt_of_le, lt_of_not-le, le_of_suc-le-suc}
use native.Mathlib.Omega.{arith}
use mathlib.Core.Path.{◌≡◌, refl, sym, ap, ◌∙◌, subst}
use mathlib.Core.Logic.{◌⊎◌, inl, inr, ◌≢◌, ⊎_elim}
use mathlib.Core.Bool.{true, false, true≢false}
use lib.Dec.{eqb, leb}
use borrow.Author.Tests.{eqb-true, eq-eqb, ltb-true, leb-true, leb-false}
use Rattle.laws.specs.Search.{first, clear}
use Rattle.laws.proofs.Search.{decided, and_split, and-join, implies, implied, same_test, test-clear, first-clear, every_true, true-every}
use Rattle.model.specs.declared.Claim.{Claim}
use Rattle.model.specs.Tree.{Array}
use Rattle.model.specs.Formed.{refuse}
use Rattle.model.specs.Rules.{Table, together, comes_after, Named, Agree, SetsAgree, Rising}
use Rattle.model.proofs.Sets.{together-how, numbered, together-self, together-sym, together-trans, zero-alone}
use Rattle.layout.specs.Table.{agrees, set_fits, in_order, refusal21, refusal30, refusal31}
use Rattle.claims.specs.Sets.{FirstOf}

agrees-true : (x y : Claim) → agrees x y ≡ true → Agree x y
agrees-true x y e = let s = and_split (eqb x.most y.most) _ e in (eqb-true _ _ s.0, eqb-true _ _ s.1)

true-agrees : (x y : Claim) → Agree x y → agrees x y ≡ true
true-agrees x y a = and-join (eq-eqb _ _ a.0) (eq-eqb _ _ a.1)

module _ (t : Table) where
  -- ---- the first claim of a set

  -- a claim of set 0 is its set's first
  pub alone-first : (c : ℕ) → (t.claim c).set ≡ 0 → FirstOf t c c
  alone-first c z = record {
    below = le_refl c;
    of = together-self t c;
    earlier = λ e h. ⊎_elim (λ q. let i = zero-alone t c e z q in absurd (omega arith)) (λ q. q) (decided (together t c e));
  }

  -- of another set the first is the lowest claim with its number
  pub numbered-first : (c d : ℕ) → (t.claim c).set ≢ 0 → d ≤ c → (t.claim d).set ≡ (t.claim c).set
      → ((e : ℕ) → e < d → (t.claim e).set ≢ (t.claim c).set) → FirstOf t c d
  numbered-first c d n l q lower = record {
    below = l;
    of = numbered t c d n q;
    earlier = λ e h. ⊎_elim (λ k. absurd (not_yet e h (together-how t c e k))) (λ k. k) (decided (together t c e));
  }
    where
      not_yet : (e : ℕ) → e < d → (c ≡ e) ⊎ (((t.claim c).set ≢ 0) × ((t.claim e).set ≡ (t.claim c).set)) → ⊥
      not_yet e h (inl i) = absurd (omega arith)
      not_yet e h (inr k) = lower e h k.1

  -- ---- refusal 30

  -- a claim that fits agrees with each before it in its set
  fits-before : (c d : ℕ) → set_fits t c ≡ true → d < c → together t c d ≡ true → Agree (t.claim c) (t.claim d)
  unfolding set_fits
  fits-before c d e h k = agrees-true (t.claim c) (t.claim d) (implies (together t c d) _ (every_true c _ e d h) k)

  -- claim d is the first of claim c's set, and every claim before c fits: then c fits where it agrees with d
  module _ (c d : ℕ) (of : FirstOf t c d) (passed : first c (λ j. refuse 30 j (set_fits t j)) ≡ clear) where
    all-before : Agree (t.claim c) (t.claim d) → (e : ℕ) → e < c → together t c e ≡ true → Agree (t.claim c) (t.claim e)
    all-before a e h k = go (eq-or-lt_of_le d-first)
      where
        d-first : d ≤ e
        d-first = le_of_suc-le-suc (lt_of_not-le λ (l : e < d). true≢false (sym k ∙ of.earlier e l))

        go : (d ≡ e) ⊎ (d < e) → Agree (t.claim c) (t.claim e)
        go (inl q) = subst (λ x. Agree (t.claim c) (t.claim x)) q a
        go (inr l) =
            let ed = together-trans t e c d (together-sym t c e k) of.of in
            let b = fits-before e d (test-clear _ _ (first-clear c _ passed e h)) l ed in
            (a.0 ∙ sym b.0, a.1 ∙ sym b.1)

    fits-or-own : set_fits t c ≡ true → (d ≡ c) ⊎ (d < c) → Agree (t.claim c) (t.claim d)
    fits-or-own e (inl q) = subst (λ x. Agree (t.claim c) (t.claim x)) (sym q) (refl, refl)
    fits-or-own e (inr l) = fits-before c d e l of.of

    pub fits-by-first : agrees (t.claim c) (t.claim d) ≡ set_fits t c
    unfolding set_fits
    fits-by-first =
        same_test _ _
        (λ e.
        true-every c _ (λ j h. implied (together t c j) _ (λ k.
        true-agrees (t.claim c) (t.claim j) (all-before (agrees-true (t.claim c) (t.claim d) e) j h k))))
        (λ e. true-agrees (t.claim c) (t.claim d) (fits-or-own e (eq-or-lt_of_le of.below)))

-- what refusal 30 leaves: the claims of a set agree
pub sets-agree : (t : Table) → refusal30 t ≡ clear → SetsAgree t
unfolding refusal30
sets-agree t e c hc d hd k = go (decided (leb c d))
  where
    fits : (j : ℕ) → j < t.claims → set_fits t j ≡ true
    fits j h = test-clear _ _ (first-clear t.claims _ e j h)

    same : c ≡ d → Agree (t.claim c) (t.claim d)
    same q = subst (λ x. Agree (t.claim c) (t.claim x)) q (refl, refl)

    go : (leb c d ≡ true) ⊎ (leb c d ≡ false) → Agree (t.claim c) (t.claim d)
    go (inl l) =
        ⊎_elim same (λ (h : c < d). let a = fits-before t d c (fits d hd) h (together-sym t c d k) in (sym a.0, sym a.1))
        (eq-or-lt_of_le (leb-true c d l))
    go (inr l) = fits-before t c d (fits c hc) (leb-false c d l) k

-- what refusal 21 leaves: each claim names an agent and a balance
pub claims-named : (a : Array) (t : Table) → refusal21 a t ≡ clear → Named a t
unfolding refusal21
claims-named a t e c h =
    let s = and_split _ _ (test-clear _ _ (first-clear t.claims _ e c h)) in
    (s.0, ltb-true _ t.balances s.1)

-- what refusal 31 leaves: each claim comes after its predecessor
pub claims-rise : (t : Table) → refusal31 t ≡ clear → Rising t
unfolding refusal31 in_order
claims-rise t e c h = test-clear _ _ (first-clear t.claims _ e (suc c) h)

-- a claim but the first is in order where it comes after the one before it
pub in_order_lem : (t : Table) (c : ℕ) → 1 ≤ c → comes_after (t.claim c) (t.claim (c - 1)) ≡ in_order t c
unfolding in_order
in_order_lem t zero h = absurd (omega (arith, h))
in_order_lem t (suc c) h = ap (λ (d : ℕ). comes_after (t.claim (suc c)) (t.claim d)) (omega arith)
