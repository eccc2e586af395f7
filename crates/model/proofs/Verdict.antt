-- The verdict is held exactly where the five rules hold; where it is broken, the named rule is false at the named place and everything
-- before it holds. Each rule's test decides its statement (decides1 to decides5); the rest is the laws of searches (Searches), so another
-- rule means its statement, its test and its lemma here. What a false rule lacks or exceeds follows at the end.
use Prim.Native.Nat.{ℕ, suc, ◌+◌, ◌*◌, ◌≤◌, ◌<◌}
use native.Mathlib.Nat.{lt_of_not-le, le_of_suc-le-suc}
use mathlib.Core.Path.{◌≡◌, refl, ap, subst}
use mathlib.Core.Logic.{◌↔◌}
use mathlib.Core.Bool.{Bool, true, false, not, ◌&&◌}
use mathlib.Core.Option.{Option, none, some}
use mathlib.Core.List.{List, [], ◌∷◌}
use lib.Dec.{leb}
use lib.ListN.{get_or}
use borrow.Author.Tests.{ltb-true, leb-true, eqb-true, lt-ltb, le-leb, eq-eqb, not-true, not-false, eqb-false}
use Rattle.laws.specs.Search.{clear, hit, test, first}
use Rattle.laws.proofs.Search.{and_split, and-join, or-false, implies, implied, clear-hit, every_true, true-every, every-false, any-true, true-any}
use Rattle.model.specs.Tree.{Array, Agent, agent_at, is_new}
use Rattle.model.specs.Rules.{Table, Balance, row_bits, balance_of, Within, within, Live, live, share_bit, fit_both, Rule1At, rule1_at, root_load, Rule2At}
use Rattle.model.specs.Rules.{rule2_at, Rule3At, rule3_at, load_left, weight_gone, Rule4At, rule4_at, least_weight, Rule5At, rule5_at, Pairs, arity}
use Rattle.model.specs.Rules.{Rules, Broken, Verdict, held, at, on_live, pairs, check1, check2, arguments3, check3}
use Rattle.model.specs.Rules.{balances4, check4, check5, verdict, FirstAt, FirstPair, FirstBroken, broken1, broken2, broken3, broken4, broken5}
use Rattle.model.proofs.Searches.{Decides, refutes, Finds, finds-as, under-finds, and_then-finds, first_finds, tests-find}

-- ---- tests and what they decide

decides-le : (m n : ℕ) → Decides (leb m n) (m ≤ n)
decides-le m n = (leb-true m n, le-leb m n)

decides-within : (t : Table) (u v : ℕ) → Decides (within t u v) (Within t u v)
unfolding within
decides-within t u v = (λ e o h s. implies _ _ (every_true row_bits _ e o h) s, λ w. true-every row_bits _ (λ o h. implied _ _ (w o h)))

module _ (t : Table) (i j : ℕ) (p q : Agent) where
  pub live-Live : live t i j p q ≡ true → Live t i j p q
  unfolding live share_bit fit_both
  live-Live e =
      let s₄ = and_split _ _ e in
      let s₃ = and_split _ _ s₄.0 in
      let s₂ = and_split _ _ s₃.0 in
      let s₁ = and_split _ _ s₂.0 in
      let b = any-true row_bits (λ o. t.row p.channel o && t.row q.channel o) s₃.1 in
      let c = and_split _ _ b.2 in
      record {
        receiver = s₁.0;
        sender = not-true _ s₁.1;
        arities = eqb-true _ _ s₂.1;
        shares = (b.0, b.1, c.0, c.1);
        fits = λ k h. leb-true _ _ (every_true t.balances _ s₄.1 k h);
      }

  pub Live-live : Live t i j p q → live t i j p q ≡ true
  unfolding live share_bit fit_both
  Live-live l =
      let sh : share_bit t p.channel q.channel ≡ true = true-any row_bits _ l.shares.0 l.shares.1 (and-join l.shares.2 l.shares.3) in
      let fi : fit_both t i j ≡ true = true-every t.balances _ (λ k h. le-leb _ _ (l.fits k h)) in
      and-join (and-join (and-join (and-join l.receiver (ap not l.sender)) (eq-eqb _ _ l.arities)) sh) fi

-- row v has in u every bit that it has in t
abbrev pub Wider : Table → Table → ℕ → Type 0
Wider t u v = (o : ℕ) → o < row_bits → t.row v o ≡ true → u.row v o ≡ true

-- More rows, more live pairs; more balances, fewer: a live pair of t lives in u, where the two channels' rows have every bit that they
-- have in t, and each balance of u is one of t. A mended table widens rows, a pooled one takes the bits of both and all balances (02).
pub live_more : (t u : Table) {i j : ℕ} {p q : Agent} → Wider t u p.channel → Wider t u q.channel
    → ((k : ℕ) → k < u.balances → (l : ℕ) × (l < t.balances) × (t.balance l ≡ u.balance k)) → Live t i j p q → Live u i j p q
live_more t u {i} {j} wp wq among l = record {
  receiver = l.receiver;
  sender = l.sender;
  arities = l.arities;
  shares = let s = l.shares in (s.0, s.1, wp s.0 s.1 s.2, wq s.0 s.1 s.3);
  fits = λ k h. let b = among k h in subst (λ (x : Balance). x.weight i + x.weight j ≤ x.bound) b.2 (l.fits b.0 b.1);
}

-- the rules, each at one place

pub decides1 : (a : Array) (t : Table) (o : ℕ) → Decides (rule1_at a t o) (Rule1At a t o)
decides1 a t o = (implies (is_new a o) (t.row o o), implied (is_new a o) (t.row o o))

pub decides2 : (a : Array) (t : Table) (k : ℕ) → Decides (rule2_at a t k) (Rule2At a t k)
decides2 a t k = decides-le _ _

pub decides3 : (t : Table) (p q : Agent) (n : ℕ) → Decides (rule3_at t p q n) (Rule3At t p q n)
decides3 t p q n = decides-within t _ _

pub decides4 : (t : Table) (i j : ℕ) (p q : Agent) (k : ℕ) → Decides (rule4_at t i j p q k) (Rule4At t i j p q k)
decides4 t i j p q k = decides-le _ _

pub decides5 : (t : Table) (c : ℕ) → Decides (rule5_at t c) (Rule5At t c)
decides5 t c = (ltb-true _ _, lt-ltb _ _)

-- ---- a search over the pairs

-- at a live pair of agents
on_live-finds : (t : Table) (i j : ℕ) (f : Agent → Agent → Verdict) {P : Agent → Agent → Type 0} {F : Agent → Agent → Broken → Type 0}
    → ((p q : Agent) → Finds (f p q) (P p q) (F p q)) → (x y : Option Agent)
    → Finds (on_live t i j x y f) ((p q : Agent) → x ≡ some p → y ≡ some q → Live t i j p q → P p q)
    (λ b. (p : Agent) × (q : Agent) × (x ≡ some p) × (y ≡ some q) × Live t i j p q × F p q b)
unfolding on_live
on_live-finds t i j f {P} {F} g x y = record { nothing = (λ e p q ex ey. (here p q).nothing.0 (rw (ex, ey) at e), clears x y); found = λ b. hits b x y }
  where
    here : (p q : Agent) → Finds (on_live t i j (some p) (some q) f) (Live t i j p q → P p q) (λ b. Live t i j p q × F p q b)
    here p q = under-finds (live-Live t i j p q, Live-live t i j p q) (g p q)

    clears : (x y : Option Agent) → ((p q : Agent) → x ≡ some p → y ≡ some q → Live t i j p q → P p q) → on_live t i j x y f ≡ clear
    clears none y h = refl
    clears (some p) none h = refl
    clears (some p) (some q) h = (here p q).nothing.1 (h p q refl refl)

    hits : (b : Broken) (x y : Option Agent) → on_live t i j x y f ≡ hit b
        → (p : Agent) × (q : Agent) × (x ≡ some p) × (y ≡ some q) × Live t i j p q × F p q b
    hits b none y e = clear-hit b e
    hits b (some p) none e = clear-hit b e
    hits b (some p) (some q) e = let s = (here p q).found b e in (p, q, refl, refl, s.0, s.1)

-- what is found is found at the lowest receiver, for it at the lowest sender, and there at the lowest figure
pairs-find : (a : Array) (t : Table) (count : Agent → ℕ) (place : ℕ → ℕ → ℕ → Broken) {b : ℕ → ℕ → Agent → Agent → ℕ → Bool}
    {P : ℕ → ℕ → Agent → Agent → ℕ → Type 0} {F : Broken → Type 0} → ((i j : ℕ) (p q : Agent) (n : ℕ) → Decides (b i j p q n) (P i j p q n))
    → ((i j n : ℕ) → FirstPair a t count P i j n → F (place i j n))
    → Finds (pairs a t (λ i j p q. first (count p) (λ n. test (b i j p q n) (place i j n)))) (Pairs a t count P) F
unfolding pairs
pairs-find a t count place {b} {P} {F} decides fails =
    finds-as
    (first_finds a.size λ i. first_finds a.size λ j.
    on_live-finds t i j _
    (λ p q. tests-find (count p) (place i j) {F = λ c. (n : ℕ) × (place i j n ≡ c) × FirstAt (count p) (P i j p q) n} (decides i j p q) (λ n f. (n, refl, f)))
    (agent_at a i) (agent_at a j)) (λ h. h, λ h. h)
    λ c s.
    let l = s.2 in
    let x = l.2 in
    let f = x.5 in
    subst F f.1 (fails s.0 l.0 f.0 record {
      below = (s.1, l.1);
      p = x.0;
      q = x.1;
      receiver = x.2;
      sender = x.3;
      lives = x.4;
      fails = f.2;
      lower = s.3;
      beside = l.3;
    })

-- ---- the whole search

module _ (a : Array) (t : Table) where
  -- the rules before a rule hold, so what its search finds is the first broken
  verdict-finds : Finds (verdict a t) (Rules a t) (FirstBroken a t)
  unfolding verdict check1 check2 check3 arguments3 check4 balances4 check5
  verdict-finds =
      finds-as
      (and_then-finds (tests-find a.names (λ o. at 1 (o ∷ [])) (decides1 a t) broken1) λ r₁.
      and_then-finds (tests-find t.balances (λ k. at 2 (k ∷ [])) (decides2 a t) (broken2 r₁)) λ r₂.
      and_then-finds (pairs-find a t arity (λ i j n. at 3 (i ∷ j ∷ suc n ∷ [])) (λ i j. decides3 t) (broken3 r₁ r₂)) λ r₃.
      and_then-finds (pairs-find a t (λ p. t.balances) (λ i j k. at 4 (i ∷ j ∷ k ∷ [])) (decides4 t) (broken4 r₁ r₂ r₃)) λ r₄.
      tests-find t.claims (λ c. at 5 (c ∷ [])) (decides5 t) (broken5 r₁ r₂ r₃ r₄)) (
        λ r. record { rule1 = r.0; rule2 = r.1.0; rule3 = r.1.1.0; rule4 = r.1.1.1.0; rule5 = r.1.1.1.1 },
        λ r. (r.rule1, (r.rule2, (r.rule3, (r.rule4, r.rule5)))),
      )
      λ b f. f

  pub held-rules : (verdict a t ≡ held) ↔ Rules a t
  held-rules = verdict-finds.nothing

  pub first-broken : (b : Broken) → verdict a t ≡ hit b → FirstBroken a t b
  first-broken = verdict-finds.found

-- ---- a broken rule 5 names a claim

abbrev pub Claim5 : Table → List ℕ → Type 0
Claim5 t l = FirstAt t.claims (Rule5At t) (get_or l 0 0)

pub first5 : (a : Array) (t : Table) (l : List ℕ) (b : Broken) → FirstBroken a t b → b ≡ at 5 l → Claim5 t l
first5 a t l b (broken1 o w) e = absurd (eqb-false 1 5 refl (ap (λ (d : Broken). d.rule) e))
first5 a t l b (broken2 r₁ k w) e = absurd (eqb-false 2 5 refl (ap (λ (d : Broken). d.rule) e))
first5 a t l b (broken3 r₁ r₂ i j n w) e = absurd (eqb-false 3 5 refl (ap (λ (d : Broken). d.rule) e))
first5 a t l b (broken4 r₁ r₂ r₃ i j n w) e = absurd (eqb-false 4 5 refl (ap (λ (d : Broken). d.rule) e))
first5 a t l b (broken5 r₁ r₂ r₃ r₄ c w) e = subst (λ (d : Broken). Claim5 t d.place) e w

-- ---- what a rule that is false at a place says of it

pub lacks1 : (a : Array) (t : Table) (o : ℕ) → (Rule1At a t o → ⊥) → (is_new a o ≡ true) × (t.row o o ≡ false)
lacks1 a t o n = let k = or-false (not (is_new a o)) (t.row o o) (refutes (decides1 a t o) n) in (not-false _ k.0, k.1)

pub exceeds2 : (a : Array) (t : Table) (k : ℕ) → (Rule2At a t k → ⊥) → (t.balance k).bound < root_load a t k
exceeds2 a t k n = lt_of_not-le n

-- an opening that is in the sent name's row and not in the parameter's
pub lacks3 : (t : Table) (p q : Agent) (n : ℕ) → (Rule3At t p q n → ⊥)
    → (o : ℕ) × (o < row_bits) × (t.row (get_or q.args n 0) o ≡ true) × (t.row (get_or p.args n 0) o ≡ false)
unfolding within
lacks3 t p q n f =
    let s = every-false row_bits _ (refutes (decides3 t p q n) f) in
    let k = or-false (not (t.row (get_or q.args n 0) s.0)) (t.row (get_or p.args n 0) s.0) s.2 in
    (s.0, s.1, not-false _ k.0, k.1)

pub exceeds4 : (t : Table) (i j : ℕ) (p q : Agent) (k : ℕ) → (Rule4At t i j p q k → ⊥) → weight_gone (t.balance k) i j p < load_left (t.balance k) p q
exceeds4 t i j p q k n = lt_of_not-le n

pub reached5 : (t : Table) (c : ℕ) → (Rule5At t c → ⊥) → least_weight t c * ((t.claim c).most + 1) ≤ (balance_of t c).bound
reached5 t c n = le_of_suc-le-suc (lt_of_not-le n)
