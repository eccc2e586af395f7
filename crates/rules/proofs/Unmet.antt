-- Rule 5 over claims that rise: the first claim that fails alone is of the first set that is not met, since sets lie side by side.
use Prim.Native.Nat.{ℕ, ◌≤◌, ◌<◌}
use native.Mathlib.Nat.{le_trans}
use native.Mathlib.Omega.{arith}
use mathlib.Core.Path.{◌≡◌, sym, ◌∙◌}
use mathlib.Core.Logic.{◌⊎◌, inl, inr, ◌≢◌, ⊎_elim}
use mathlib.Core.Bool.{Bool, true, false, not, ◌||◌, true≢false}
use mathlib.Core.List.{[], ◌∷◌}
use lib.Dec.{ltb}
use borrow.Author.Tests.{ltb-true, ltb-false}
use Rattle.laws.specs.Search.{clear, hit}
use Rattle.laws.proofs.Search.{decided, implied, clear-test, clear_first, true-every, false-every}
use Rattle.model.specs.Rules.{Table, together, Rising, at}
use Rattle.model.proofs.Sets.{together-how, numbered, together-sym}
use Rattle.model.proofs.Order.{sets-rise}
use Rattle.claims.specs.Sets.{FirstOf}
use Rattle.rules.specs.Ruling.{rule_below, set_holds}
use Rattle.rules.proofs.Laws.{rule-stops}

module _ (t : Table) (holds : ℕ → Bool) where
  -- every claim holds
  pub all-met : ((c : ℕ) → c < t.claims → holds c ≡ true) → rule_below t.claims 5 (set_holds t holds) ≡ clear
  all-met all = clear_first t.claims _ (λ c h. clear-test _ _ (true-every t.claims _ (λ e k. implied (together t c e) _ (λ g. all e k))))

  -- claim c is the first that fails, and d is its set's first
  module _ (rise : Rising t) (c d : ℕ) (of : FirstOf t c d) (h : c < t.claims) (before : (e : ℕ) → e < c → holds e ≡ true) (fails : holds c ≡ false) where
    -- a claim below d is of no claim's set from c on
    apart : (p e : ℕ) → p < d → c ≤ e → e < t.claims → together t p e ≡ true → ⊥
    apart p e l m k g = go (together-how t p e g)
      where
        below : d ≤ c
        below = of.below

        go : (p ≡ e) ⊎ (((t.claim p).set ≢ 0) × ((t.claim e).set ≡ (t.claim p).set)) → ⊥
        go (inl q) = absurd (omega (arith, q, l, m, below))
        go (inr q) =
            let up = sets-rise t rise p c (omega (arith, l, below)) h in
            let on = sets-rise t rise c e m k in
            let same : (t.claim c).set ≡ (t.claim p).set = omega (arith, up, on, q.1) in
            true≢false (sym (together-sym t p c (numbered t p c q.0 same)) ∙ of.earlier p l)

    passed : rule_below d 5 (set_holds t holds) ≡ clear
    passed =
        clear_first d _ (λ p l. clear-test _ _ (true-every t.claims _ (λ e k. implied (together t p e) _ (λ g.
        ⊎_elim (λ q. before e (ltb-true e c q)) (λ q. absurd (apart p e l (ltb-false e c q) k g)) (decided (ltb e c))))))

    pub set-unmet : rule_below t.claims 5 (set_holds t holds) ≡ hit (at 5 (d ∷ []))
    set-unmet =
        rule-stops 5 (set_holds t holds) d passed t.claims (le_trans (omega (arith, of.below)) h)
        (false-every t.claims _ c h (broken (together-sym t c d of.of) fails))
      where
        broken : {b x : Bool} → b ≡ true → x ≡ false → not b || x ≡ false
        broken e f = rw (e, f)
