-- The table, live pairs, the five rules as statements with the tests that decide them, and the verdict as a search in order
-- (01, "The table file", "The five rules").
use Rattle.std.specs.Prelude.{ℕ, suc, ◌+◌, ◌*◌, ◌≤◌, ◌<◌, ◌≡◌, Bool, true, false, not, ◌&&◌, ◌||◌, List, [], ◌∷◌, eqb, leb, ltb, length, get_or}
use Rattle.std.proofs.Math.Option.{Option, none, some}
use Rattle.laws.specs.Search.{Found, clear, test, and_then, under, first, every, any, least}
use Rattle.model.specs.Tree.{Array, node_at, is_agent, Sort, out, inp, resource, Agent, agent_at, proc_at, receives, load, is_new}
use Rattle.model.specs.declared.Claim.{Claim}

-- ---- the table

pub record Balance : Type 0 where
  pub bound : ℕ
  pub weight : ℕ → ℕ

-- "Row v has bit o where name v may hold a channel opened by new o."
pub record Table : Type 0 where
  pub row : ℕ → ℕ → Bool
  pub balances : ℕ
  pub balance : ℕ → Balance
  pub claims : ℕ
  pub claim : ℕ → Claim

-- a row has 32 bytes
abbrev pub row_bits : ℕ
row_bits = 256

-- the balance of claim c
abbrev pub balance_of : Table → ℕ → Balance
balance_of t c = t.balance (t.claim c).balance

-- row u is contained in row v
abbrev pub Within : Table → ℕ → ℕ → Type 0
Within t u v = (o : ℕ) → o < row_bits → t.row u o ≡ true → t.row v o ≡ true

unfoldable pub within : Table → ℕ → ℕ → Bool
within t u v = every row_bits λ o. not (t.row u o) || t.row v o

-- ---- sets of claims (02, request i)

-- "A claim's last number becomes a set number; 0 stands alone, equal others form one set": claim d is of claim c's set
unfoldable pub together : Table → ℕ → ℕ → Bool
together t c d = eqb c d || (not (eqb (t.claim c).set 0) && eqb (t.claim d).set (t.claim c).set)

-- agent i is in claim c's set: a claim of the set names it
unfoldable pub in_set : Table → ℕ → ℕ → Bool
in_set t c i = any t.claims λ d. together t c d && eqb i (t.claim d).agent

-- "its least weight": of the agents that the set's claims name, c's own among them, in c's balance
abbrev pub agent_weight : Table → ℕ → ℕ → ℕ
agent_weight t c d = (balance_of t c).weight (t.claim d).agent

unfoldable pub least_weight : Table → ℕ → ℕ
least_weight t c = least t.claims (together t c) (agent_weight t c) (agent_weight t c c)

-- ---- claims in one order (02, request ii)

-- the lower number first; of equal ones what follows decides
abbrev pub rises : ℕ → ℕ → Bool → Bool
rises m n next = ltb m n || (eqb m n && next)

-- "Claims now rise strictly by set, agent, most, balance": claim y comes after claim x
abbrev pub comes_after : Claim → Claim → Bool
comes_after y x = rises x.set y.set (rises x.agent y.agent (rises x.most y.most (ltb x.balance y.balance)))

-- ---- live pairs

-- "A pair (p in or resource, q out) is live if arities agree, their channel rows share a bit, and no balance has
-- weight p + weight q above its bound": agent p of node i, agent q of node j
pub record Live (t : Table) (i j : ℕ) (p q : Agent) : Type 0 where
  pub receiver : receives p.sort ≡ true
  pub sender : receives q.sort ≡ false
  pub arities : length p.args ≡ length q.args
  pub shares : (o : ℕ) × (o < row_bits) × (t.row p.channel o ≡ true) × (t.row q.channel o ≡ true)
  pub fits : (k : ℕ) → k < t.balances → (t.balance k).weight i + (t.balance k).weight j ≤ (t.balance k).bound

unfoldable pub share_bit : Table → ℕ → ℕ → Bool
share_bit t u v = any row_bits λ o. t.row u o && t.row v o

unfoldable pub fit_both : Table → ℕ → ℕ → Bool
fit_both t i j = every t.balances λ k. leb ((t.balance k).weight i + (t.balance k).weight j) (t.balance k).bound

unfoldable pub live : Table → ℕ → ℕ → Agent → Agent → Bool
live t i j p q =
    receives p.sort
    && not (receives q.sort)
    && eqb (length p.args) (length q.args)
    && share_bit t p.channel q.channel
    && fit_both t i j

-- ---- the five rules, each at one place: the statement, and the test that decides it (proofs/Verdict: decides1 to decides5)

-- "1. Row o has bit o for every new o (place: o)."
abbrev pub Rule1At : Array → Table → ℕ → Type 0
Rule1At a t o = is_new a o ≡ true → t.row o o ≡ true

abbrev pub rule1_at : Array → Table → ℕ → Bool
rule1_at a t o = not (is_new a o) || t.row o o

-- "2. The load of node 0 is within the bound (balance)."
abbrev pub root_load : Array → Table → ℕ → ℕ
root_load a t k = load (t.balance k).weight (proc_at a 0)

abbrev pub Rule2At : Array → Table → ℕ → Type 0
Rule2At a t k = root_load a t k ≤ (t.balance k).bound

abbrev pub rule2_at : Array → Table → ℕ → Bool
rule2_at a t k = leb (root_load a t k) (t.balance k).bound

-- "3. For every live pair, each sent name's row is contained in the matching parameter's row (p, q, argument from 1)."
-- Argument n counts from 0 here, and its place is n + 1.
abbrev pub Rule3At : Table → Agent → Agent → ℕ → Type 0
Rule3At t p q n = Within t (get_or q.args n 0) (get_or p.args n 0)

abbrev pub rule3_at : Table → Agent → Agent → ℕ → Bool
rule3_at t p q n = within t (get_or q.args n 0) (get_or p.args n 0)

-- the weight that a step takes off with the receiver: "weight p if p is an in"
unfoldable pub taken : Sort → ℕ → ℕ
taken out w = 0
taken inp w = w
taken resource w = 0

-- "4. For every live pair and balance, load of both continuations is at most weight q, plus weight p if p is an in
-- (p, q, balance)."
abbrev pub load_left : Balance → Agent → Agent → ℕ
load_left b p q = load b.weight p.body + load b.weight q.body

abbrev pub weight_gone : Balance → ℕ → ℕ → Agent → ℕ
weight_gone b i j p = b.weight j + taken p.sort (b.weight i)

abbrev pub Rule4At : Table → ℕ → ℕ → Agent → Agent → ℕ → Type 0
Rule4At t i j p q k = load_left (t.balance k) p q ≤ weight_gone (t.balance k) i j p

abbrev pub rule4_at : Table → ℕ → ℕ → Agent → Agent → ℕ → Bool
rule4_at t i j p q k = leb (load_left (t.balance k) p q) (weight_gone (t.balance k) i j p)

-- "5. For every claim, its agent's weight in its balance × (most + 1) exceeds that balance's bound (claim)", as 02 (request i) has it:
-- "A set is met when its least weight × (most + 1) exceeds the bound; rule 5 names its first claim." A set's claims agree in most and
-- balance (30), so the lowest claim whose set is not met is its set's first (proofs/Sets: first-of-set). Of a claim that stands alone this is
-- 01's sentence (single-met).
abbrev pub Rule5At : Table → ℕ → Type 0
Rule5At t c = (balance_of t c).bound < least_weight t c * ((t.claim c).most + 1)

abbrev pub rule5_at : Table → ℕ → Bool
rule5_at t c = ltb (balance_of t c).bound (least_weight t c * ((t.claim c).most + 1))

-- ---- the five rules

-- a statement holds at every number below n
abbrev pub Each : ℕ → (ℕ → Type 0) → Type 0
Each n P = (i : ℕ) → i < n → P i

-- at nodes i and j, a live pair of agents p and q meets a statement at every number below the pair's count
abbrev pub PairAt : Array → Table → (Agent → ℕ) → (Agent → Agent → ℕ → Type 0) → ℕ → ℕ → Type 0
PairAt a t count P i j = (p q : Agent) → agent_at a i ≡ some p → agent_at a j ≡ some q → Live t i j p q → Each (count p) (P p q)

abbrev pub Pairs : Array → Table → (Agent → ℕ) → (ℕ → ℕ → Agent → Agent → ℕ → Type 0) → Type 0
Pairs a t count P = Each a.size λ i. Each a.size λ j. PairAt a t count (P i j) i j

-- rule 3 counts the arguments, rule 4 the balances
abbrev pub arity : Agent → ℕ
arity p = length p.args

abbrev pub Rule1 : Array → Table → Type 0
Rule1 a t = Each a.names (Rule1At a t)

abbrev pub Rule2 : Array → Table → Type 0
Rule2 a t = Each t.balances (Rule2At a t)

abbrev pub Rule3 : Array → Table → Type 0
Rule3 a t = Pairs a t arity (λ i j. Rule3At t)

abbrev pub Rule4 : Array → Table → Type 0
Rule4 a t = Pairs a t (λ p. t.balances) (Rule4At t)

abbrev pub Rule5 : Array → Table → Type 0
Rule5 a t = Each t.claims (Rule5At t)

pub record Rules (a : Array) (t : Table) : Type 0 where
  pub rule1 : Rule1 a t
  pub rule2 : Rule2 a t
  pub rule3 : Rule3 a t
  pub rule4 : Rule4 a t
  pub rule5 : Rule5 a t

-- what demand 3 asks of the claims: each names a balance of the table
abbrev pub ClaimsFit : Table → Type 0
ClaimsFit t = Each t.claims λ c. (t.claim c).balance < t.balances

-- what refusal 21 leaves of the claims: each names an agent of the array and a balance of the table
abbrev pub Named : Array → Table → Type 0
Named a t = Each t.claims λ c. (is_agent (node_at a (t.claim c).agent) ≡ true) × ((t.claim c).balance < t.balances)

-- two claims agree in most and in balance; what refusal 30 leaves of the claims: those of one set do
abbrev pub Agree : Claim → Claim → Type 0
Agree x y = (x.most ≡ y.most) × (x.balance ≡ y.balance)

abbrev pub SetsAgree : Table → Type 0
SetsAgree t = Each t.claims λ c. Each t.claims λ d. together t c d ≡ true → Agree (t.claim c) (t.claim d)

-- what refusal 31 leaves of the claims: each comes after its predecessor
abbrev pub Rising : Table → Type 0
Rising t = (c : ℕ) → suc c < t.claims → comes_after (t.claim (suc c)) (t.claim c) ≡ true

-- ---- the verdict

-- a broken rule and its place figures
pub record Broken : Type 0 where
  pub rule : ℕ
  pub place : List ℕ

abbrev pub Verdict : Type 0
Verdict = Found Broken

abbrev pub held : Verdict
held = clear

abbrev pub at : ℕ → List ℕ → Broken
at r figures = record { rule = r; place = figures }

-- a search at a live pair of agents
unfoldable pub on_live : Table → ℕ → ℕ → Option Agent → Option Agent → (Agent → Agent → Verdict) → Verdict
on_live t i j none q f = clear
on_live t i j (some p) none f = clear
on_live t i j (some p) (some q) f = under (live t i j p q) (f p q)

-- "The checker stops at the first pair whose rule fails, lowest p, then q, then the last figure."
unfoldable pub pairs : Array → Table → (ℕ → ℕ → Agent → Agent → Verdict) → Verdict
pairs a t f = first a.size λ i. first a.size λ j. on_live t i j (agent_at a i) (agent_at a j) (f i j)

unfoldable pub check1 : Array → Table → Verdict
check1 a t = first a.names λ o. test (rule1_at a t o) (at 1 (o ∷ []))

unfoldable pub check2 : Array → Table → Verdict
check2 a t = first t.balances λ k. test (rule2_at a t k) (at 2 (k ∷ []))

unfoldable pub arguments3 : Table → ℕ → ℕ → Agent → Agent → Verdict
arguments3 t i j p q = first (arity p) λ n. test (rule3_at t p q n) (at 3 (i ∷ j ∷ suc n ∷ []))

unfoldable pub check3 : Array → Table → Verdict
check3 a t = pairs a t (arguments3 t)

unfoldable pub balances4 : Table → ℕ → ℕ → Agent → Agent → Verdict
balances4 t i j p q = first t.balances λ k. test (rule4_at t i j p q k) (at 4 (i ∷ j ∷ k ∷ []))

unfoldable pub check4 : Array → Table → Verdict
check4 a t = pairs a t (balances4 t)

unfoldable pub check5 : Array → Table → Verdict
check5 a t = first t.claims λ c. test (rule5_at t c) (at 5 (c ∷ []))

-- "Rules go in number order; 1, 2 and 5 name the lowest place."
unfoldable pub verdict : Array → Table → Verdict
verdict a t = and_then (check1 a t) (and_then (check2 a t) (and_then (check3 a t) (and_then (check4 a t) (check5 a t))))

-- ---- what a broken verdict says: the named rule is false at the named place, and everything before it holds. What is lacking there,
-- or exceeded, follows (proofs/Verdict: lacks1, exceeds2, lacks3, exceeds4, reached5).

-- i is the first number below n at which a statement is false
pub record FirstAt (n : ℕ) (P : ℕ → Type 0) (i : ℕ) : Type 0 where
  pub below : i < n
  pub fails : P i → ⊥
  pub earlier : Each i P

-- "lowest p, then q, then the last figure": nodes i and j have a live pair that fails first at number n; no live pair with a lower
-- receiver fails, and none with this receiver and a lower sender
pub record FirstPair (a : Array) (t : Table) (count : Agent → ℕ) (P : ℕ → ℕ → Agent → Agent → ℕ → Type 0) (i j n : ℕ) : Type 0 where
  pub below : (i < a.size) × (j < a.size)
  pub p : Agent
  pub q : Agent
  pub receiver : agent_at a i ≡ some p
  pub sender : agent_at a j ≡ some q
  pub lives : Live t i j p q
  pub fails : FirstAt (count p) (P i j p q) n
  pub lower : Each i λ k. Each a.size λ l. PairAt a t count (P k l) k l
  pub beside : Each j λ l. PairAt a t count (P i l) i l

pub data FirstBroken (a : Array) (t : Table) : Broken → Type 0 where
  broken1 : (o : ℕ) → FirstAt a.names (Rule1At a t) o → FirstBroken a t (at 1 (o ∷ []))
  broken2 : Rule1 a t → (k : ℕ) → FirstAt t.balances (Rule2At a t) k → FirstBroken a t (at 2 (k ∷ []))
  broken3 : Rule1 a t → Rule2 a t → (i j n : ℕ) → FirstPair a t arity (λ i j. Rule3At t) i j n → FirstBroken a t (at 3 (i ∷ j ∷ suc n ∷ []))
  broken4 : Rule1 a t → Rule2 a t → Rule3 a t → (i j k : ℕ) → FirstPair a t (λ p. t.balances) (Rule4At t) i j k
      → FirstBroken a t (at 4 (i ∷ j ∷ k ∷ []))
  broken5 : Rule1 a t → Rule2 a t → Rule3 a t → Rule4 a t → (c : ℕ) → FirstAt t.claims (Rule5At t) c → FirstBroken a t (at 5 (c ∷ []))
