-- Searches by tests that decide a statement: nothing is found exactly where every statement holds, and what is found is the first that
-- is false. One law for each way to make a search; the verdict's two theorems (Verdict) are such a law of the whole search.
use Prim.Native.Nat.{ℕ, ◌<◌}
use mathlib.Core.Path.{◌≡◌, sym, ◌∙◌, subst}
use mathlib.Core.Logic.{◌↔◌, ⊎_elim}
use mathlib.Core.Bool.{Bool, true, false, true≢false}
use Rattle.laws.specs.Search.{Found, clear, hit, test, and_then, under, first}
use Rattle.laws.proofs.Search.{test-clear, clear-test, test-hit, and_then-split, and_then-join, and_then-hit, under-clear, clear-under, under-hit}
use Rattle.laws.proofs.Search.{decided, first-clear, clear_first, first-hit}
use Rattle.model.specs.Rules.{Each, FirstAt}

-- a test passes exactly where a statement holds
abbrev pub Decides : Bool → Type 0 → Type 0
Decides b P = (b ≡ true) ↔ P

pub refuted : {b : Bool} {P : Type 0} → Decides b P → b ≡ false → P → ⊥
refuted d e p = true≢false (sym (d.1 p) ∙ e)

pub refutes : {b : Bool} {P : Type 0} → Decides b P → (P → ⊥) → b ≡ false
refutes {b} d n = ⊎_elim (λ (e : b ≡ true). absurd (n (d.0 e))) (λ (e : b ≡ false). e) (decided b)

-- a search finds nothing exactly where a statement holds, and something only where it fails so
pub record Finds {A : Type 0} (x : Found A) (P : Type 0) (Fails : A → Type 0) : Type 0 where
  pub nothing : (x ≡ clear) ↔ P
  pub found : (b : A) → x ≡ hit b → Fails b

module _ {A : Type 0} where
  -- the same in other words
  pub finds-as : {x : Found A} {P Q : Type 0} {F G : A → Type 0} → Finds x P F → P ↔ Q → ((b : A) → F b → G b) → Finds x Q G
  finds-as f e g = record { nothing = (λ c. e.0 (f.nothing.0 c), λ q. f.nothing.1 (e.1 q)); found = λ b h. g b (f.found b h) }

  pub test-finds : {b : Bool} {P : Type 0} → Decides b P → (a : A) → Finds (test b a) P (λ c. (P → ⊥) × (a ≡ c))
  test-finds {b} d a = record {
    nothing = (λ c. d.0 (test-clear b a c), λ p. clear-test b a (d.1 p));
    found = λ c h. let s = test-hit b a c h in (refuted d s.0, s.1);
  }

  pub under-finds : {b : Bool} {L P : Type 0} {x : Found A} {F : A → Type 0} → Decides b L → Finds x P F → Finds (under b x) (L → P) (λ c. L × F c)
  under-finds {b} {x = x} d f = record {
    nothing = (λ c l. f.nothing.0 (under-clear b x c (d.1 l)), λ p. clear-under b x (λ e. f.nothing.1 (p (d.0 e))));
    found = λ c h. let s = under-hit b x c h in (d.0 s.0, f.found c s.1);
  }

  -- one search, and another where the first finds nothing
  pub and_then-finds : {x y : Found A} {P Q : Type 0} {F : A → Type 0} → Finds x P F → (P → Finds y Q F) → Finds (and_then x y) (P × Q) F
  and_then-finds {x} {y} {F = F} f g = record {
    nothing = (
      λ c. let s = and_then-split x y c in let p = f.nothing.0 s.0 in (p, (g p).nothing.0 s.1),
      λ h. and_then-join x y (f.nothing.1 h.0) ((g h.0).nothing.1 h.1),
    );
    found = λ c h.
        ⊎_elim (λ (e : x ≡ hit c). f.found c e) (λ (e : (x ≡ clear) × (y ≡ hit c)). (g (f.nothing.0 e.0)).found c e.1) (and_then-hit x y c h);
  }

  pub first_finds : (n : ℕ) {f : ℕ → Found A} {P : ℕ → Type 0} {F : ℕ → A → Type 0} → ((i : ℕ) → Finds (f i) (P i) (F i))
      → Finds (first n f) (Each n P) (λ c. (i : ℕ) × (i < n) × F i c × Each i P)
  first_finds n {f} g = record {
    nothing = (λ c i h. (g i).nothing.0 (first-clear n f c i h), λ p. clear_first n f (λ i h. (g i).nothing.1 (p i h)));
    found = λ c h. let s = first-hit n f c h in (s.0, s.1, (g s.0).found c s.2, λ i l. (g i).nothing.0 (s.3 i l));
  }

  -- tests at the numbers below n, each with its place
  pub tests-find : (n : ℕ) (place : ℕ → A) {b : ℕ → Bool} {P : ℕ → Type 0} {F : A → Type 0} → ((i : ℕ) → Decides (b i) (P i))
      → ((i : ℕ) → FirstAt n P i → F (place i)) → Finds (first n (λ i. test (b i) (place i))) (Each n P) F
  tests-find n place {F = F} d fails =
      finds-as (first_finds n (λ i. test-finds (d i) (place i))) (λ p. p, λ p. p)
      λ c s. subst F s.2.1 (fails s.0 record { below = s.1; fails = s.2.0; earlier = s.3 })
