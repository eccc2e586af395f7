-- The process tree of an array whose children lie above their parents: the law that unfolds it, and what holds at each of its nodes.
use Prim.Native.Nat.{ℕ, zero, suc, ◌+◌, ◌≤◌, ◌<◌}
use native.Mathlib.Omega.{arith}
use mathlib.Core.Path.{◌≡◌, refl, sym, ap, ap₂, ◌∙◌, subst}
use mathlib.Core.Logic.{◌⊎◌, inl, inr}
use mathlib.Core.Bool.{Bool, true, false, true≢false, false≢true}
use mathlib.Core.List.{List, [], ◌∷◌, ◌++◌}
use mathlib.Core.Option.{Option, none, some}
use lib.Dec.{ltb}
use borrow.Author.Tests.{ltb-true, eq-eqb}
use Rattle.laws.specs.Search.{clear}
use Rattle.laws.specs.Lists.{All, all, has}
use Rattle.laws.proofs.Search.{and_split, decided, test-clear, first-clear, true-any}
use Rattle.laws.proofs.Lists.{all-has, has_here, has-later, All-map, all_true}
use Rattle.model.specs.Tree.{Array, Sort, out, inp, resource, Node, node_at, Proc, grow, tree, proc_at, Agent, as_agent, agent_at, opens, is_agent, is_new}
use Rattle.model.specs.Formed.{children, params, binds, sent, uses, child_fits, refusal8, refusal10}

-- node i's child c lies above it and below m
abbrev pub Above : ℕ → ℕ → ℕ → Type 0
Above m i c = (i < c) × (c < m)

-- two ways to grow a node's children agree on the node
grow-agree : (i : ℕ) (f g : ℕ → Proc) (v : Node) → ((l : ℕ) → has (children v) l ≡ true → f l ≡ g l) → grow i f v ≡ grow i g v
unfolding grow children
grow-agree i f g Node.stop h = refl
grow-agree i f g (Node.new n l) h = ap (Proc.new n) (h l (has_here l []))
grow-agree i f g (Node.par l r) h = ap₂ Proc.par (h l (has_here l (r ∷ []))) (h r (has-later l (r ∷ []) r (has_here r [])))
grow-agree i f g (Node.choice l r) h = ap₂ (Proc.choice i) (h l (has_here l (r ∷ []))) (h r (has-later l (r ∷ []) r (has_here r [])))
grow-agree i f g (Node.agent s x ys l) h = ap (Proc.agent i s x ys) (h l (has_here l []))

-- past the last node there is only stop: no test that stop fails passes there
node-inside : (a : Array) (i : ℕ) (f : Node → Bool) → f Node.stop ≡ false → f (node_at a i) ≡ true → i < a.size
unfolding node_at
node-inside a i f past e = go (decided (ltb i a.size))
  where
    go : (ltb i a.size ≡ true) ⊎ (ltb i a.size ≡ false) → i < a.size
    go (inl q) = ltb-true i a.size q
    go (inr q) = absurd (false≢true (sym past ∙ (rw q at e)))

-- a parent, and an agent, are below M
pub parent-below : (a : Array) (i c : ℕ) → has (children (node_at a i)) c ≡ true → i < a.size
unfolding children has
parent-below a i c k = node-inside a i (λ v. has (children v) c) refl k

pub agent-inside : (a : Array) (i : ℕ) → is_agent (node_at a i) ≡ true → i < a.size
unfolding is_agent
agent-inside a i e = node-inside a i is_agent refl e

module _ (a : Array) (ok : refusal8 a ≡ clear) where
  pub child-above : (i c : ℕ) → has (children (node_at a i)) c ≡ true → Above a.size i c
  unfolding refusal8 child_fits
  child-above i c k =
      let h = parent-below a i c k in
      let s = and_split (ltb i c) (ltb c a.size) (all-has _ (children (node_at a i)) c (test-clear _ _ (first-clear a.size _ ok i h)) k) in
      (ltb-true i c s.0, ltb-true c a.size s.1)

  -- past the array's length, depth does not matter
  depths : (d e i : ℕ) → i < a.size → a.size ≤ d + i → a.size ≤ e + i → tree d a i ≡ tree e a i
  unfolding tree
  depths zero e i h hd he = absurd (omega arith)
  depths (suc d) zero i h hd he = absurd (omega arith)
  depths (suc d) (suc e) i h hd he =
      grow-agree i _ _ (node_at a i) λ l k. let c = child-above i l k in depths d e l c.1 (omega (arith, c.0)) (omega (arith, c.0))

  -- the law of the tree: a node's tree is built of its children's
  pub proc_at-grow : (i : ℕ) → i < a.size → proc_at a i ≡ grow i (λ l. proc_at a l) (node_at a i)
  unfolding proc_at tree
  proc_at-grow i h = depths a.size (suc a.size) i h (omega arith) (omega arith)

-- ---- agents

-- past the last node there is no agent
pub agent-below : (a : Array) (i : ℕ) (p : Agent) → agent_at a i ≡ some p → i < a.size
unfolding agent_at proc_at as_agent tree grow node_at
agent-below a i p e = go (decided (ltb i a.size))
  where
    nothing : ◌≡◌ {A = Option Agent} none (some p) → ⊥
    nothing e = let z : true ≡ false = cc in true≢false z

    past : (d : ℕ) → ltb i a.size ≡ false → tree d a i ≡ Proc.stop
    past zero q = refl
    past (suc d) q = rw q

    go : (ltb i a.size ≡ true) ⊎ (ltb i a.size ≡ false) → i < a.size
    go (inl q) = ltb-true i a.size q
    go (inr q) = absurd (nothing (sym (ap as_agent (past a.size q)) ∙ e))

-- ---- what holds at each node of a tree

pub record AgentWf (a : Array) (i : ℕ) (s : Sort) (x : ℕ) (ys : List ℕ) (p : Proc) : Type 0 where
  pub below : i < a.size
  pub here : proc_at a i ≡ Proc.agent i s x ys p
  pub channel : x < a.names
  pub args : All (λ y. y < a.names) ys

-- news open names below N, arguments are names below N, and an agent's tree is the one at its number
abbrev pub Wf : Array → Proc → Type 0
Wf a Proc.stop = Unit {0}
Wf a (Proc.new n p) = (n < a.names) × (is_new a n ≡ true) × Wf a p
Wf a (Proc.par p q) = Wf a p × Wf a q
Wf a (Proc.choice i p q) = Wf a p × Wf a q
Wf a (Proc.agent i s x ys p) = AgentWf a i s x ys p × Wf a p

is-new : (a : Array) (i n l : ℕ) → i < a.size → node_at a i ≡ Node.new n l → is_new a n ≡ true
unfolding is_new opens
is-new a i n l h e = true-any a.size (λ j. opens (node_at a j) n) i h (rw e (eq-eqb n n refl))

all_append : (f : ℕ → Bool) (xs ys : List ℕ) → all f (xs ++ ys) ≡ true → (all f xs ≡ true) × (all f ys ≡ true)
unfolding all
all_append f [] ys e = (refl, e)
all_append f (x ∷ xs) ys e =
    let s = and_split (f x) (all f (xs ++ ys)) e in
    let k = all_append f xs ys s.1 in
    (rw s.0 k.0, k.1)

module _ (a : Array) (named : refusal10 a ≡ clear) where
  -- a name used or bound is below N
  pub names-below : (i : ℕ) → i < a.size → (all (λ v. ltb v a.names) (uses (node_at a i)) ≡ true) × (all (λ v. ltb v a.names) (binds (node_at a i)) ≡ true)
  unfolding refusal10
  names-below i h = all_append _ (uses (node_at a i)) (binds (node_at a i)) (test-clear _ _ (first-clear a.size _ named i h))

  below_all : (ys : List ℕ) → all (λ v. ltb v a.names) ys ≡ true → All (λ y. y < a.names) ys
  below_all ys e = All-map (λ y k. ltb-true y a.names k) ys (all_true _ ys e)

  -- so are an agent's arguments, sent or bound
  args-below : (s : Sort) (ys : List ℕ) → all (λ v. ltb v a.names) (sent s ys) ≡ true → all (λ v. ltb v a.names) (params s ys) ≡ true
      → All (λ y. y < a.names) ys
  unfolding sent params
  args-below out ys e f = below_all ys e
  args-below inp ys e f = below_all ys f
  args-below resource ys e f = below_all ys f

module _ (a : Array) (ok : refusal8 a ≡ clear) (named : refusal10 a ≡ clear) where
  wf-grow : (i : ℕ) (f : ℕ → Proc) (v : Node) → i < a.size → node_at a i ≡ v → proc_at a i ≡ grow i f v
      → all (λ v. ltb v a.names) (uses v) ≡ true → all (λ v. ltb v a.names) (binds v) ≡ true
      → ((l : ℕ) → has (children v) l ≡ true → Wf a (f l)) → Wf a (grow i f v)
  unfolding grow children uses binds all
  wf-grow i f Node.stop h ev ep u b w = tt
  wf-grow i f (Node.new n l) h ev ep u b w = (ltb-true n a.names (and_split (ltb n a.names) true b).0, is-new a i n l h ev, w l (has_here l []))
  wf-grow i f (Node.par l r) h ev ep u b w = (w l (has_here l (r ∷ [])), w r (has-later l (r ∷ []) r (has_here r [])))
  wf-grow i f (Node.choice l r) h ev ep u b w = (w l (has_here l (r ∷ [])), w r (has-later l (r ∷ []) r (has_here r [])))
  wf-grow i f (Node.agent s x ys l) h ev ep u b w =
      let k = and_split (ltb x a.names) (all (λ v. ltb v a.names) (sent s ys)) u in
      (record { below = h; here = ep; channel = ltb-true x a.names k.0; args = args-below a named s ys k.1 b }, w l (has_here l []))

  wf-tree : (d i : ℕ) → i < a.size → a.size ≤ d + i → Wf a (tree d a i)
  unfolding tree proc_at
  wf-tree zero i h hd = absurd (omega arith)
  wf-tree (suc d) i h hd =
      let n = names-below a named i h in
      wf-grow i (λ l. tree d a l) (node_at a i) h refl (depths a ok a.size (suc d) i h (omega arith) hd) n.0 n.1
      (λ l k. let c = child-above a ok i l k in wf-tree d l c.1 (omega (arith, c.0)))

  pub wf-proc_at : (i : ℕ) → i < a.size → Wf a (proc_at a i)
  unfolding proc_at
  wf-proc_at i h = wf-tree a.size i h (omega arith)

-- ---- an agent, read back from its tree

grow-number : (i : ℕ) (f : ℕ → Proc) (v : Node) (j : ℕ) (s : Sort) (x : ℕ) (ys : List ℕ) (p : Proc) → grow i f v ≡ Proc.agent j s x ys p → i ≡ j
unfolding grow
grow-number i f Node.stop j s x ys p e = cc
grow-number i f (Node.new n l) j s x ys p e = cc
grow-number i f (Node.par l r) j s x ys p e = cc
grow-number i f (Node.choice l r) j s x ys p e = cc
grow-number i f (Node.agent t y zs l) j s x ys p e = cc

as_agent_lem : (p : Proc) (g : Agent) → as_agent p ≡ some g → (i : ℕ) × (p ≡ Proc.agent i g.sort g.channel g.args g.body)
unfolding as_agent
as_agent_lem Proc.stop g e = (0, cc)
as_agent_lem (Proc.new n p) g e = (0, cc)
as_agent_lem (Proc.par p q) g e = (0, cc)
as_agent_lem (Proc.choice i p q) g e = (0, cc)
as_agent_lem (Proc.agent i s x ys p) g e =
    let f : ◌≡◌ {A = Agent} record { sort = s; channel = x; args = ys; body = p } g = cc in
    (i, rw (← f))

pub agent-tree : (a : Array) → refusal8 a ≡ clear → (i : ℕ) (g : Agent) → agent_at a i ≡ some g
    → proc_at a i ≡ Proc.agent i g.sort g.channel g.args g.body
unfolding agent_at
agent-tree a ok i g e =
    let z = as_agent_lem (proc_at a i) g e in
    let n = grow-number i (λ l. proc_at a l) (node_at a i) z.0 _ _ _ _ (sym (proc_at-grow a ok i (agent-below a i g e)) ∙ z.1) in
    subst (λ (k : ℕ). proc_at a i ≡ Proc.agent k g.sort g.channel g.args g.body) (sym n) z.1
