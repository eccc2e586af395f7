-- Sets of claims (02, request i): who is together; the least weight is one of the set's agents' and no more than any; a set is met exactly where
-- each of its claims would be alone; the lowest claim whose set is not met is its set's first; the threads of a set's agents are the agents'
-- counts added up, each agent taken once; and the single claim of 01 is the set of one claim.
use Prim.Native.Nat.{ℕ, ◌+◌, ◌*◌, ◌≤◌, ◌<◌}
use native.Mathlib.Nat.{le_trans, mul-le-mul_right}
use native.Mathlib.Omega.{arith}
use mathlib.Core.Path.{◌≡◌, refl, sym, ap, ap₂, ◌∙◌, subst}
use mathlib.Core.Logic.{◌↔◌, ◌⊎◌, inl, inr, ◌≢◌, ⊎_elim}
use mathlib.Core.Bool.{Bool, true, false, cond, not}
use mathlib.Core.List.{[], ◌∷◌}
use lib.Dec.{eqb}
use borrow.Author.Tests.{eqb-true, eqb-false, eq-eqb, ne_eqb, not-true}
use Rattle.laws.specs.Search.{sum}
use Rattle.laws.specs.Lists.{one}
use Rattle.laws.proofs.Search.{decided, and_split, and-join, or_split, or_left, or_right, same_test, any-true, true-any, sum_same, sum-add, sum_zeros}
use Rattle.laws.proofs.Search.{sum-only, least-le, least-is}
use Rattle.model.specs.Calculus.{Config}
use Rattle.model.specs.Rules.{Table, balance_of, together, in_set, agent_weight, least_weight, Rule5At, Each, SetsAgree, FirstAt}
use Rattle.model.specs.Safe.{total, count, set_sum}

-- two tests that agree count the same threads
pub count_same : {f g : ℕ → Bool} → ((i : ℕ) → f i ≡ g i) → {X C : Type 0} (c : Config X C) → count f c ≡ count g c
unfolding total
count_same same [] = refl
count_same same (x ∷ c) = ap₂ ◌+◌ (ap one (same x.agent)) (count_same same c)

module _ (t : Table) where
  -- ---- who is together

  pub together-how : (c d : ℕ) → together t c d ≡ true → (c ≡ d) ⊎ (((t.claim c).set ≢ 0) × ((t.claim d).set ≡ (t.claim c).set))
  unfolding together
  together-how c d e =
      ⊎_elim (λ q. inl (eqb-true c d q))
      (λ q.
      let s = and_split (not (eqb (t.claim c).set 0)) _ q in
      inr (eqb-false _ 0 (not-true _ s.0), eqb-true _ _ s.1)) (or_split (eqb c d) _ e)

  pub numbered : (c d : ℕ) → (t.claim c).set ≢ 0 → (t.claim d).set ≡ (t.claim c).set → together t c d ≡ true
  unfolding together
  numbered c d n e = or_right (eqb c d) _ (and-join (ap not (ne_eqb _ 0 n)) (eq-eqb _ _ e))

  pub together-self : (c : ℕ) → together t c c ≡ true
  unfolding together
  together-self c = or_left (eqb c c) _ (eq-eqb c c refl)

  pub together-sym : (c d : ℕ) → together t c d ≡ true → together t d c ≡ true
  together-sym c d e =
      ⊎_elim (λ (q : c ≡ d). subst (λ x. together t x c ≡ true) q (together-self c)) (λ q. numbered d c (λ z. q.0 (sym q.1 ∙ z)) (sym q.1))
      (together-how c d e)

  pub together-trans : (c d e : ℕ) → together t c d ≡ true → together t d e ≡ true → together t c e ≡ true
  together-trans c d e h k =
      ⊎_elim (λ (q : c ≡ d). subst (λ x. together t x e ≡ true) (sym q) k)
      (λ q.
      ⊎_elim (λ (r : d ≡ e). subst (λ x. together t c x ≡ true) r h) (λ r. numbered c e q.0 (r.1 ∙ q.1)) (together-how d e k)) (together-how c d h)

  -- "0 stands alone"
  pub zero-alone : (c d : ℕ) → (t.claim c).set ≡ 0 → together t c d ≡ true → c ≡ d
  zero-alone c d z e = ⊎_elim (λ q. q) (λ q. absurd (q.0 z)) (together-how c d e)

  -- an agent of the set is named by a claim of the set
  pub set-claim : (c i : ℕ) → in_set t c i ≡ true → (d : ℕ) × (d < t.claims) × (together t c d ≡ true) × (i ≡ (t.claim d).agent)
  unfolding in_set
  set-claim c i e =
      let s = any-true t.claims _ e in
      let q = and_split (together t c s.0) _ s.2 in
      (s.0, s.1, q.0, eqb-true _ _ q.1)

  pub claim-set : (c d : ℕ) → d < t.claims → together t c d ≡ true → in_set t c (t.claim d).agent ≡ true
  unfolding in_set
  claim-set c d h e = true-any t.claims _ d h (and-join e (eq-eqb (t.claim d).agent _ refl))

  -- ---- the least weight

  -- no more than the weight of any agent of the set
  pub least-below : (c i : ℕ) → in_set t c i ≡ true → least_weight t c ≤ (balance_of t c).weight i
  unfolding least_weight
  least-below c i e =
      let s = set-claim c i e in
      subst (λ x. least_weight t c ≤ (balance_of t c).weight x) (sym s.3) (least-le t.claims (together t c) (agent_weight t c) _ s.0 s.1 s.2)

  -- and that of one of them
  pub least-among : (c : ℕ) → c < t.claims → (i : ℕ) × (in_set t c i ≡ true) × (least_weight t c ≡ (balance_of t c).weight i)
  unfolding least_weight
  least-among c h =
      ⊎_elim (λ q. ((t.claim c).agent, claim-set c c h (together-self c), q))
      (λ q. ((t.claim q.0).agent, claim-set c q.0 q.1 q.2, q.3))
      (least-is t.claims (together t c) (agent_weight t c) (agent_weight t c c))

  -- ---- rule 5 claim by claim

  -- 01's rule 5, of claim c alone: "its agent's weight in its balance × (most + 1) exceeds that balance's bound"
  abbrev pub MetAlone : ℕ → Type 0
  MetAlone c = (balance_of t c).bound < agent_weight t c c * ((t.claim c).most + 1)

  -- where a set's claims agree, the set is met exactly where each of its claims is met alone
  module _ (agree : SetsAgree t) (c : ℕ) (h : c < t.claims) where
    -- another claim of the set, met alone, says the same of its agent in c's balance
    shared : (d : ℕ) → d < t.claims → together t c d ≡ true
        → MetAlone d ↔ ((balance_of t c).bound < agent_weight t c d * ((t.claim c).most + 1))
    shared d k e =
        let a = agree c h d k e in
        let says : ℕ → ℕ → Type 0 = λ m b. (t.balance b).bound < (t.balance b).weight (t.claim d).agent * (m + 1) in (
          λ z. subst (λ m. says m (t.claim c).balance) (sym a.0) (subst (says (t.claim d).most) (sym a.1) z),
          λ z. subst (λ m. says m (t.claim d).balance) a.0 (subst (says (t.claim c).most) a.1 z),
        )

    pub met-each : Rule5At t c → (d : ℕ) → d < t.claims → together t c d ≡ true → MetAlone d
    met-each r d k e =
        let l = least-below c (t.claim d).agent (claim-set c d k e) in
        (shared d k e).1 (le_trans r (mul-le-mul_right ((t.claim c).most + 1) l))

    pub each-met : ((d : ℕ) → d < t.claims → together t c d ≡ true → MetAlone d) → Rule5At t c
    each-met all =
        let s = least-among c h in
        let q = set-claim c s.0 s.1 in
        let w = (shared q.0 q.1 q.2).0 (all q.0 q.1 q.2) in
        subst (λ x. (balance_of t c).bound < x * ((t.claim c).most + 1)) (sym (s.2 ∙ ap (balance_of t c).weight q.3)) w

  -- "rule 5 names its first claim": no claim before the lowest whose set is not met is of its set
  pub first-of-set : SetsAgree t → (c : ℕ) → FirstAt t.claims (Rule5At t) c → Each c (λ d. together t c d ≡ false)
  first-of-set agree c f d h = ⊎_elim (λ e. absurd (f.fails (met e))) (λ e. e) (decided (together t c d))
    where
      below : c < t.claims
      below = f.below

      met : together t c d ≡ true → Rule5At t c
      met e =
          let l : d < t.claims = le_trans h (omega (arith, below)) in
          each-met agree c below (λ j k g. met-each agree d l (f.earlier d h) j k (together-trans d c j (together-sym c d e) g))

  -- ---- a claim whose set has no other claim, as one of set 0: its set's agent is its own, and the least weight is that agent's, so that
  -- rule 5 and Safe say of it what 01 says of a claim

  abbrev pub Single : ℕ → Type 0
  Single c = (d : ℕ) → d < t.claims → together t c d ≡ true → c ≡ d

  pub single-zero : (c : ℕ) → (t.claim c).set ≡ 0 → Single c
  single-zero c z d h e = zero-alone c d z e

  module _ (c : ℕ) (h : c < t.claims) (single : Single c) where
    pub single-agent : (i : ℕ) → in_set t c i ≡ eqb i (t.claim c).agent
    single-agent i =
        same_test _ _
        (λ e. let s = set-claim c i e in eq-eqb _ _ (s.3 ∙ ap (λ (d : ℕ). (t.claim d).agent) (sym (single s.0 s.1 s.2))))
        (λ e. subst (λ x. in_set t c x ≡ true) (sym (eqb-true _ _ e)) (claim-set c c h (together-self c)))

    pub single-weight : least_weight t c ≡ agent_weight t c c
    single-weight =
        let s = least-among c h in
        s.2 ∙ ap (balance_of t c).weight (eqb-true _ _ (sym (single-agent s.0) ∙ s.1))

    pub single-count : {X C : Type 0} (k : Config X C) → count (in_set t c) k ≡ count (λ i. eqb i (t.claim c).agent) k
    single-count k = count_same single-agent k

    pub single-met : Rule5At t c ↔ MetAlone c
    single-met = let f : ℕ → Type 0 = λ x. (balance_of t c).bound < x * ((t.claim c).most + 1) in (subst f single-weight, subst f (sym single-weight))

  -- ---- counts added up, each agent once

  module _ (q n : ℕ) (inside : (i : ℕ) → in_set t q i ≡ true → i < n) where
    -- what a thread of agent j adds at node i
    abbrev share : ℕ → ℕ → ℕ
    share j i = cond (in_set t q i) (one (eqb j i)) 0

    nothing : (b : Bool) → cond {A = ℕ} b 0 0 ≡ 0
    nothing true = refl
    nothing false = refl

    elsewhere : (j i : ℕ) → i ≢ j → share j i ≡ 0
    unfolding one
    elsewhere j i n = rw (ne_eqb j i (λ e. n (sym e))) (nothing (in_set t q i))

    here : (j : ℕ) → share j j ≡ one (in_set t q j)
    unfolding one
    here j = rw (eq-eqb j j refl) refl

    -- it is counted at its own node where that is in the set, and nowhere else
    counted : (j : ℕ) → sum n (share j) ≡ one (in_set t q j)
    unfolding one
    counted j = go (decided (in_set t q j))
      where
        go : (in_set t q j ≡ true) ⊎ (in_set t q j ≡ false) → sum n (share j) ≡ one (in_set t q j)
        go (inl e) = sum-only n (share j) j (inside j e) (elsewhere j) ∙ here j
        go (inr e) =
            sum_same n (share j) (λ i. 0) (λ i h.
            ⊎_elim (λ (r : eqb i j ≡ true). ap (share j) (eqb-true i j r) ∙ here j ∙ ap one e) (λ r. elsewhere j i (eqb-false i j r)) (decided (eqb i j)))
            ∙ sum_zeros n
            ∙ ap one (sym e)

    adds : (b : Bool) (x y : ℕ) → cond b (x + y) 0 ≡ cond b x 0 + cond b y 0
    adds true x y = refl
    adds false x y = refl

    pub count-sums : {X C : Type 0} (c : Config X C) → set_sum n t q c ≡ count (in_set t q) c
    unfolding total
    count-sums [] = sum_same n _ (λ i. 0) (λ i h. nothing (in_set t q i)) ∙ sum_zeros n
    count-sums (x ∷ c) =
        sum_same n _ (λ i. share x.agent i + cond (in_set t q i) (count (λ j. eqb j i) c) 0) (λ i h. adds (in_set t q i) _ _)
        ∙ sum-add n (share x.agent) (λ i. cond (in_set t q i) (count (λ j. eqb j i) c) 0)
        ∙ ap₂ ◌+◌ (counted x.agent) (count-sums c)
