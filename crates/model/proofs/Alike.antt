-- Two tables that agree wherever the rules look have the same verdict; and rules and Safe speak of the claims as a set (02, request ii): tables with
-- the same rows and balances and the same claims, in any order and with any repeats, obey the rules alike (rules-alike) and say the same of every
-- configuration (safe-alike). It is about the model's definitions alone, for whoever puts a table together otherwise than from a file.
use Prim.Native.Nat.{ℕ, suc, ◌+◌, ◌*◌, ◌≤◌, ◌<◌, max}
use native.Mathlib.Omega.{arith}
use mathlib.Core.Path.{◌≡◌, refl, sym, ap, ap₂, ◌∙◌, subst}
use mathlib.Core.Logic.{◌↔◌, ◌⊎◌, inl, inr, ◌≢◌}
use mathlib.Core.Bool.{Bool, true, cond, not, ◌&&◌, ◌||◌}
use mathlib.Core.List.{List, [], ◌∷◌}
use mathlib.Core.Option.{Option, none, some}
use lib.Dec.{eqb, leb, ltb}
use lib.ListN.{length, get_or}
use borrow.Author.Tests.{eqb-true, ltb-true}
use Rattle.laws.specs.Search.{clear, test, first, every}
use Rattle.laws.specs.Lists.{All}
use Rattle.laws.proofs.Search.{same_test, test-clear, clear-test, and_then-split, and_then-join, first-clear, clear_first, first-same}
use Rattle.laws.proofs.Search.{and_split, every_true, every-same, any_same, sum_same}
use Rattle.laws.proofs.Lists.{All-at}
use Rattle.model.specs.Tree.{Array, node_at, is_agent, is_new, Sort, Proc, proc_at, Agent, as_agent, agent_at, load}
use Rattle.model.specs.Formed.{WellFormed}
use Rattle.model.specs.Calculus.{Marker, Cell, Thread, Config}
use Rattle.model.specs.declared.Claim.{Claim}
use Rattle.model.specs.Rules.{Table, row_bits, balance_of, together, in_set, least_weight, within, share_bit, fit_both, live, taken}
use Rattle.model.specs.Rules.{rule5_at, Each, Rules, Named}
use Rattle.model.specs.Rules.{Verdict, at, on_live, pairs, check1, check2, arguments3, check3, balances4, check4, check5, verdict}
use Rattle.model.specs.Safe.{total, weighed, count, set_sum, Flows, Safe}
use Rattle.model.specs.Same.{Alike, Among, SameClaims, IsThread, IsConfig}
use Rattle.model.proofs.Tree.{agent-inside, agent-below, AgentWf, Wf, wf-proc_at, agent-tree}
use Rattle.model.proofs.Verdict.{held-rules}
use Rattle.model.proofs.Sets.{count_same, together-how, numbered, together-self, set-claim, claim-set, least-below, least-among}
use Rattle.model.proofs.Nodes.{acts-agent, free-below}

-- two searches over as many places that agree at each
first_alike : {n m : ℕ} → n ≡ m → (f g : ℕ → Verdict) → ((k : ℕ) → k < n → f k ≡ g k) → first n f ≡ first m g
first_alike {n} e f g same = first-same n f g same ∙ ap (λ (m : ℕ). first m g) e

-- ---- agents, from their trees

-- what is known of agent p at node i
pub record Known (a : Array) (i : ℕ) (p : Agent) : Type 0 where
  pub agent : is_agent (node_at a i) ≡ true
  pub channel : p.channel < a.names
  pub args : (n : ℕ) → get_or p.args n 0 < a.names
  pub body : Wf a p.body

module _ (a : Array) (ok : WellFormed a) where
  tree-agent : (i : ℕ) {s : Sort} {x : ℕ} {ys : List ℕ} {p : Proc} → AgentWf a i s x ys p → is_agent (node_at a i) ≡ true
  unfolding agent_at as_agent
  tree-agent i h = acts-agent a ok.children i _ (ap as_agent h.here)

  pub known : (i : ℕ) (p : Agent) → agent_at a i ≡ some p → Known a i p
  known i p e =
      let w = rw (agent-tree a ok.children i p e) at (wf-proc_at a ok.children ok.named i (agent-below a i p e)) in
      let c = w.0.channel in
      record {
        agent = acts-agent a ok.children i p e;
        channel = c;
        args = λ n. All-at (λ y. y < a.names) p.args n 0 (omega arith) w.0.args;
        body = w.1;
      }

  -- a load looks at the weights of agents alone
  module _ (w v : ℕ → ℕ) (same : (i : ℕ) → is_agent (node_at a i) ≡ true → w i ≡ v i) where
    load_tree : (p : Proc) → Wf a p → load w p ≡ load v p
    unfolding load
    load_tree Proc.stop h = refl
    load_tree (Proc.new n p) h = load_tree p h.2
    load_tree (Proc.par p q) h = ap₂ ◌+◌ (load_tree p h.0) (load_tree q h.1)
    load_tree (Proc.choice i p q) h = ap₂ max (load_tree p h.0) (load_tree q h.1)
    load_tree (Proc.agent i s x ys p) h = same i (tree-agent i h.0)

    pub load-alike : (i : ℕ) → i < a.size → load w (proc_at a i) ≡ load v (proc_at a i)
    load-alike i h = load_tree (proc_at a i) (wf-proc_at a ok.children ok.named i h)

  -- ---- the rules over tables that agree

  module _ (t u : Table) (e : Alike a t u) where
    share-alike : (x y : ℕ) → x < a.names → y < a.names → share_bit t x y ≡ share_bit u x y
    unfolding share_bit
    share-alike x y h k = any_same row_bits _ _ (λ o l. ap₂ ◌&&◌ (e.rows x o h l) (e.rows y o k l))

    within-alike : (x y : ℕ) → x < a.names → y < a.names → within t x y ≡ within u x y
    unfolding within
    within-alike x y h k = every-same row_bits _ _ (λ o l. ap₂ (λ (b c : Bool). not b || c) (e.rows x o h l) (e.rows y o k l))

    fit-alike : (i j : ℕ) → is_agent (node_at a i) ≡ true → is_agent (node_at a j) ≡ true → fit_both t i j ≡ fit_both u i j
    unfolding fit_both
    fit-alike i j h k =
        every-same t.balances _ (λ m. leb ((u.balance m).weight i + (u.balance m).weight j) (u.balance m).bound)
        (λ m l. ap₂ leb (ap₂ ◌+◌ (e.weights m i l h) (e.weights m j l k)) (e.bounds m l))
        ∙ ap (λ (n : ℕ). every n (λ m. leb ((u.balance m).weight i + (u.balance m).weight j) (u.balance m).bound)) e.many

    -- a search at a pair of agents
    module _ (i j : ℕ) (f g : Agent → Agent → Verdict) (same : (p q : Agent) → Known a i p → Known a j q → f p q ≡ g p q) where
      pair-alike : (x y : Option Agent) → agent_at a i ≡ x → agent_at a j ≡ y → on_live t i j x y f ≡ on_live u i j x y g
      unfolding on_live live
      pair-alike none y ex ey = refl
      pair-alike (some p) none ex ey = refl
      pair-alike (some p) (some q) ex ey =
          let P = known i p ex in
          let Q = known j q ey in
          rw (share-alike p.channel q.channel P.channel Q.channel, fit-alike i j P.agent Q.agent, same p q P Q)

    pairs-alike : (f g : ℕ → ℕ → Agent → Agent → Verdict) → ((i j : ℕ) (p q : Agent) → Known a i p → Known a j q → f i j p q ≡ g i j p q)
        → pairs a t f ≡ pairs a u g
    unfolding pairs
    pairs-alike f g same =
        first-same a.size _ _ (λ i h. first-same a.size _ _ (λ j k. pair-alike i j (f i j) (g i j) (same i j) (agent_at a i) (agent_at a j) refl refl))

    check1-alike : check1 a t ≡ check1 a u
    unfolding check1
    check1-alike =
        let few = ok.few_names in
        first-same a.names _ _ (λ o h. ap (λ (b : Bool). test (not (is_new a o) || b) (at 1 (o ∷ []))) (e.rows o o h (omega arith)))

    check2-alike : check2 a t ≡ check2 a u
    unfolding check2
    check2-alike =
        first_alike e.many _ _ (λ k h.
        ap₂ (λ (x y : ℕ). test (leb x y) (at 2 (k ∷ []))) (load-alike _ _ (λ i. e.weights k i h) 0 ok.some) (e.bounds k h))

    pub check3-alike : check3 a t ≡ check3 a u
    unfolding check3 arguments3
    check3-alike =
        pairs-alike (arguments3 t) (arguments3 u) (λ i j p q P Q.
        first-same (length p.args) _ _ (λ n h.
        ap (λ (b : Bool). test b (at 3 (i ∷ j ∷ suc n ∷ []))) (within-alike (get_or q.args n 0) (get_or p.args n 0) (Q.args n) (P.args n))))

    pub check4-alike : check4 a t ≡ check4 a u
    unfolding check4 balances4
    check4-alike =
        pairs-alike (balances4 t) (balances4 u) (λ i j p q P Q.
        first_alike e.many _ _ (λ k h.
        ap₂ (λ (x y : ℕ). test (leb x y) (at 4 (i ∷ j ∷ k ∷ [])))
        (ap₂ ◌+◌ (load_tree _ _ (λ n. e.weights k n h) p.body P.body) (load_tree _ _ (λ n. e.weights k n h) q.body Q.body))
        (ap₂ ◌+◌ (e.weights k j h Q.agent) (ap (taken p.sort) (e.weights k i h P.agent)))))

-- ---- claims as a set

-- either way round
pub alike-back : (a : Array) (t u : Table) → Alike a t u → Alike a u t
alike-back a t u e = record {
  rows = λ v o h l. sym (e.rows v o h l);
  many = sym e.many;
  bounds = λ k h. sym (e.bounds k (rw e.many h));
  weights = λ k i h l. sym (e.weights k i (rw e.many h) l);
}

pub claims-back : (t u : Table) → SameClaims t u → SameClaims u t
claims-back t u same = record { there = same.back; back = same.there }

-- tables with the same claims in the same order have the same claims
listed : (t u : Table) → t.claims ≡ u.claims → ((c : ℕ) → c < t.claims → t.claim c ≡ u.claim c) → SameClaims t u
listed t u many each = record {
  there = λ c h. (c, rw (← many) h, sym (each c h));
  back = λ c h. let k : c < t.claims = rw many h in (c, k, each c k);
}

-- by the place of each claim in the other table
abbrev same_claim : Claim → Claim → Bool
same_claim x y = eqb x.set y.set && (eqb x.agent y.agent && (eqb x.most y.most && eqb x.balance y.balance))

same-claim : (x y : Claim) → same_claim x y ≡ true → y ≡ x
same-claim x y e =
    let s = and_split (eqb x.set y.set) _ e in
    let a = and_split (eqb x.agent y.agent) _ s.1 in
    let m = and_split (eqb x.most y.most) _ a.1 in
    let set_is : y.set ≡ x.set = sym (eqb-true _ _ s.0) in
    let agent-is : y.agent ≡ x.agent = sym (eqb-true _ _ a.0) in
    let most-is : y.most ≡ x.most = sym (eqb-true _ _ m.0) in
    let balance-is : y.balance ≡ x.balance = sym (eqb-true _ _ m.1) in
    λ i. record { agent = agent-is i; most = most-is i; balance = balance-is i; set = set_is i }

unfoldable pub placed : Table → Table → List ℕ → Bool
placed t u places = every t.claims λ c. ltb (get_or places c 0) u.claims && same_claim (t.claim c) (u.claim (get_or places c 0))

pub same_by : (t u : Table) (there back : List ℕ) → placed t u there ≡ true → placed u t back ≡ true → SameClaims t u
unfolding placed
same_by t u there back e f = record { there = among t u there e; back = among u t back f }
  where
    among : (t u : Table) (places : List ℕ) → placed t u places ≡ true → Each t.claims (λ c. Among u (t.claim c))
    among t u places e c h =
        let k = get_or places c 0 in
        let s = and_split (ltb k u.claims) _ (every_true t.claims _ e c h) in
        (k, ltb-true k u.claims s.0, same-claim (t.claim c) (u.claim k) s.1)

-- an agent of claim c's set is in the set of the same claim d of the other table
in-other : (t u : Table) → SameClaims t u → (c d i : ℕ) → d < u.claims → t.claim c ≡ u.claim d → in_set t c i ≡ true → in_set u d i ≡ true
in-other t u same c d i h e q = go (together-how t c s.0 s.2)
  where
    s : (j : ℕ) × (j < t.claims) × (together t c j ≡ true) × (i ≡ (t.claim j).agent)
    s = set-claim t c i q

    other : Among u (t.claim s.0)
    other = same.there s.0 s.1

    go : (c ≡ s.0) ⊎ (((t.claim c).set ≢ 0) × ((t.claim s.0).set ≡ (t.claim c).set)) → in_set u d i ≡ true
    go (inl r) =
        let own : i ≡ (u.claim d).agent = s.3 ∙ ap (λ (j : ℕ). (t.claim j).agent) (sym r) ∙ ap (λ (x : Claim). x.agent) e in
        subst (λ x. in_set u d x ≡ true) (sym own) (claim-set u d d h (together-self u d))
    go (inr r) =
        let set_is : (t.claim c).set ≡ (u.claim d).set = ap (λ (x : Claim). x.set) e in
        let there : (u.claim other.0).set ≡ (u.claim d).set = ap (λ (x : Claim). x.set) other.2 ∙ r.1 ∙ set_is in
        let agent-is : i ≡ (u.claim other.0).agent = s.3 ∙ ap (λ (x : Claim). x.agent) (sym other.2) in
        subst (λ x. in_set u d x ≡ true) (sym agent-is) (claim-set u d other.0 other.1 (numbered u d other.0 (λ z. r.0 (set_is ∙ z)) there))

in-same : (t u : Table) → SameClaims t u → (c d : ℕ) → c < t.claims → d < u.claims → t.claim c ≡ u.claim d → (i : ℕ) → in_set t c i ≡ in_set u d i
in-same t u same c d h k e i = same_test _ _ (in-other t u same c d i k e) (in-other u t (claims-back t u same) d c i h (sym e))

-- claims name agents and balances in both tables, or in neither
named_other : (a : Array) (t u : Table) → t.balances ≡ u.balances → SameClaims t u → Named a t → Named a u
named_other a t u many same named d h =
    let s = same.back d h in
    let n = named s.0 s.1 in
    subst (λ (x : Claim). (is_agent (node_at a x.agent) ≡ true) × (x.balance < u.balances)) s.2 (n.0, rw (← many) n.1)

-- the least weight of a claim's set is no more in the other table
least_other : (a : Array) (t u : Table) → Alike a t u → SameClaims t u → Named a t → (c d : ℕ) → c < t.claims → d < u.claims → t.claim c ≡ u.claim d
    → least_weight u d ≤ least_weight t c
least_other a t u e same named c d h k q =
    let s = least-among t c h in
    let j = set-claim t c s.0 s.1 in
    let acts : is_agent (node_at a s.0) ≡ true = subst (λ x. is_agent (node_at a x) ≡ true) (sym j.3) (named j.0 j.1).0 in
    let weighs : (balance_of t c).weight s.0 ≡ (balance_of u d).weight s.0 =
    e.weights (t.claim c).balance s.0 (named c h).1 acts ∙ ap (λ (x : Claim). (u.balance x.balance).weight s.0) q in
    rw (s.2 ∙ weighs) (least-below u d s.0 (in-other t u same c d s.0 k q s.1))

module _ (a : Array) (t u : Table) (e : Alike a t u) (same : SameClaims t u) (named : Named a t) where
  -- rule 5 asks the same of the same claim
  five-same : (c d : ℕ) → c < t.claims → d < u.claims → t.claim c ≡ u.claim d → rule5_at t c ≡ rule5_at u d
  five-same c d h k q =
      let bound : (balance_of t c).bound ≡ (balance_of u d).bound =
      e.bounds (t.claim c).balance (named c h).1 ∙ ap (λ (x : Claim). (u.balance x.balance).bound) q in
      let other : Named a u = named_other a t u e.many same named in
      let l₁ = least_other a t u e same named c d h k q in
      let l₂ = least_other a u t (alike-back a t u e) (claims-back t u same) other d c k h (sym q) in
      let weight : least_weight t c ≡ least_weight u d = omega (arith, l₁, l₂) in
      ap₂ ltb bound (ap₂ ◌*◌ weight (ap (λ (x : Claim). x.most + 1) q))

  five-alike : check5 a t ≡ clear → check5 a u ≡ clear
  unfolding check5
  five-alike h =
      clear_first u.claims _ (λ d k.
      let s = same.back d k in
      clear-test _ _ (sym (five-same s.0 d s.1 k s.2) ∙ test-clear _ _ (first-clear t.claims _ h s.0 s.1)))

-- ---- the verdict, over tables that have their claims in the same order

module _ (a : Array) (ok : WellFormed a) (t u : Table) (e : Alike a t u) (many : t.claims ≡ u.claims)
    (each : (c : ℕ) → c < t.claims → t.claim c ≡ u.claim c) (named : Named a t) where
  check5-alike : check5 a t ≡ check5 a u
  unfolding check5
  check5-alike =
      first_alike many _ _ (λ c h.
      ap (λ (b : Bool). test b (at 5 (c ∷ []))) (five-same a t u e (listed t u many each) named c c h (rw (← many) h) (each c h)))

  pub verdict-alike : verdict a t ≡ verdict a u
  unfolding verdict
  verdict-alike = rw (check1-alike a ok t u e, check2-alike a ok t u e, check3-alike a ok t u e, check4-alike a ok t u e, check5-alike)

-- ---- the rules, over tables that have the same claims

module _ (a : Array) (ok : WellFormed a) where
  rules-other : (t u : Table) → Alike a t u → SameClaims t u → Named a t → Rules a t → Rules a u
  unfolding verdict
  rules-other t u e same named r =
      let s₁ = and_then-split _ _ ((held-rules a t).1 r) in
      let s₂ = and_then-split _ _ s₁.1 in
      let s₃ = and_then-split _ _ s₂.1 in
      let s₄ = and_then-split _ _ s₃.1 in
      (held-rules a u).0
      (and_then-join _ _ (sym (check1-alike a ok t u e) ∙ s₁.0)
      (and_then-join _ _ (sym (check2-alike a ok t u e) ∙ s₂.0)
      (and_then-join _ _ (sym (check3-alike a ok t u e) ∙ s₃.0)
      (and_then-join _ _ (sym (check4-alike a ok t u e) ∙ s₄.0) (five-alike a t u e same named s₄.1)))))

  pub rules-alike : (t u : Table) → Alike a t u → SameClaims t u → Named a t → Rules a t ↔ Rules a u
  rules-alike t u e same named = (
    rules-other t u e same named,
    rules-other u t (alike-back a t u e) (claims-back t u same) (named_other a t u e.many same named),
  )

  -- ---- and what they say of a configuration

  flow-other : (t u : Table) → Alike a t u → (th : Thread Marker Cell) → IsThread a th → Flows a t th → Flows a u th
  flow-other t u e th is flows v free =
      let f = flows v free in
      let few = ok.few_names in
      let small = is.opened v f.0 f.1 free f.2 in
      let inside = free-below a (proc_at a th.agent) v (wf-proc_at a ok.children ok.named th.agent (agent-inside a th.agent is.agent)) free in
      (f.0, f.1, f.2, sym (e.rows v f.0 inside (omega (arith, small, few))) ∙ f.3)

  flows-other : (t u : Table) → Alike a t u → (c : Config Marker Cell) → IsConfig a c → All (Flows a t) c → All (Flows a u) c
  flows-other t u e [] is flows = tt
  flows-other t u e (th ∷ c) is flows = (flow-other t u e th is.0 flows.0, flows-other t u e c is.1 flows.1)

  weighed-same : (w v : ℕ → ℕ) → ((i : ℕ) → is_agent (node_at a i) ≡ true → w i ≡ v i) → (c : Config Marker Cell) → IsConfig a c → weighed w c ≡ weighed v c
  unfolding total
  weighed-same w v same [] is = refl
  weighed-same w v same (th ∷ c) is = ap₂ ◌+◌ (same th.agent is.0.agent) (weighed-same w v same c is.1)

  safe-other : (t u : Table) → Alike a t u → SameClaims t u → (c : Config Marker Cell) → IsConfig a c → Safe a t c → Safe a u c
  safe-other t u e same c is safe = record {
    flows = flows-other t u e c is safe.flows;
    balances = λ k h.
        let l : k < t.balances = rw e.many h in
        let b = safe.balances k l in
        let w = weighed-same _ _ (λ i n. e.weights k i l n) c is in
        let m = e.bounds k l in
        rw (← w, ← m) b;
    claims = λ q h.
        let s = same.back q h in
        let n = count_same (in-same t u same s.0 q s.1 h s.2) c in
        rw (← n, ← ap (λ (x : Claim). x.most) s.2) (safe.claims s.0 s.1);
  }

  -- the sums of sets are bounded alike, in any configuration
  sums-other : (t u : Table) → SameClaims t u → (n : ℕ) (c : Config Marker Cell) → Each t.claims (λ q. set_sum n t q c ≤ (t.claim q).most)
      → Each u.claims (λ q. set_sum n u q c ≤ (u.claim q).most)
  sums-other t u same n c all q h =
      let s = same.back q h in
      let is : set_sum n t s.0 c ≡ set_sum n u q c =
      sum_same n _ _ (λ i l. ap (λ (b : Bool). cond b (count (λ j. eqb j i) c) 0) (in-same t u same s.0 q s.1 h s.2 i)) in
      rw (← is, ← ap (λ (x : Claim). x.most) s.2) (all s.0 s.1)

  pub sums-alike : (t u : Table) → SameClaims t u → (n : ℕ) (c : Config Marker Cell)
      → Each t.claims (λ q. set_sum n t q c ≤ (t.claim q).most) ↔ Each u.claims (λ q. set_sum n u q c ≤ (u.claim q).most)
  sums-alike t u same n c = (sums-other t u same n c, sums-other u t (claims-back t u same) n c)

  pub safe-alike : (t u : Table) → Alike a t u → SameClaims t u → (c : Config Marker Cell) → IsConfig a c → Safe a t c ↔ Safe a u c
  safe-alike t u e same c is = (safe-other t u e same c is, safe-other u t (alike-back a t u e) (claims-back t u same) c is)
