-- The laws by which code over node numbers meets definitions over trees.
use Prim.Native.Nat.{ℕ, ◌<◌}
use mathlib.Core.Path.{◌≡◌, refl, sym, ap, ◌∙◌, subst}
use mathlib.Core.Logic.{⊎_elim}
use mathlib.Core.Bool.{true, not, false≢true}
use mathlib.Core.Option.{some}
use lib.Dec.{eqb}
use borrow.Author.Tests.{eqb-true}
use Rattle.laws.specs.Search.{clear}
use Rattle.laws.specs.Lists.{has}
use Rattle.laws.proofs.Search.{and_split, or_split}
use Rattle.laws.proofs.Lists.{All-has}
use Rattle.model.specs.Tree.{Array, Sort, out, inp, resource, Node, node_at, is_agent, Proc, grow, proc_at, load, is_free, free_below, Agent, as_agent, agent_at}
use Rattle.model.specs.Nodes.{load_of, free_of, agent_of}
use Rattle.model.specs.Formed.{refusal8}
use Rattle.model.proofs.Tree.{proc_at-grow, agent-below, Wf}

load-grow : (w : ℕ → ℕ) (i : ℕ) (f : ℕ → Proc) (v : Node) → load w (grow i f v) ≡ load_of w i (λ l. load w (f l)) v
unfolding load grow load_of
load-grow w i f Node.stop = refl
load-grow w i f (Node.new n l) = refl
load-grow w i f (Node.par l r) = refl
load-grow w i f (Node.choice l r) = refl
load-grow w i f (Node.agent s x ys l) = refl

free-grow : (i n : ℕ) (f : ℕ → Proc) (v : Node) → is_free (grow i f v) n ≡ free_of (λ l. is_free (f l) n) v n
unfolding is_free grow free_of
free-grow i n f Node.stop = refl
free-grow i n f (Node.new o l) = refl
free-grow i n f (Node.par l r) = refl
free-grow i n f (Node.choice l r) = refl
free-grow i n f (Node.agent s x ys l) = refl

agent-grow : (i : ℕ) (f : ℕ → Proc) (v : Node) → as_agent (grow i f v) ≡ agent_of f v
unfolding as_agent grow agent_of
agent-grow i f Node.stop = refl
agent-grow i f (Node.new n l) = refl
agent-grow i f (Node.par l r) = refl
agent-grow i f (Node.choice l r) = refl
agent-grow i f (Node.agent s x ys l) = refl

module _ (a : Array) (ok : refusal8 a ≡ clear) (i : ℕ) (h : i < a.size) where
  pub load_at : (w : ℕ → ℕ) → load w (proc_at a i) ≡ load_of w i (λ l. load w (proc_at a l)) (node_at a i)
  load_at w = ap (load w) (proc_at-grow a ok i h) ∙ load-grow w i (λ l. proc_at a l) (node_at a i)

  pub free-at : (n : ℕ) → is_free (proc_at a i) n ≡ free_of (λ l. is_free (proc_at a l) n) (node_at a i) n
  free-at n = ap (λ p. is_free p n) (proc_at-grow a ok i h) ∙ free-grow i n (λ l. proc_at a l) (node_at a i)

  pub agent-at : agent_at a i ≡ agent_of (λ l. proc_at a l) (node_at a i)
  unfolding agent_at
  agent-at = ap as_agent (proc_at-grow a ok i h) ∙ agent-grow i (λ l. proc_at a l) (node_at a i)

-- a node that acts is an agent
is-agent : (f : ℕ → Proc) (n : Node) (g : Agent) → agent_of f n ≡ some g → is_agent n ≡ true
unfolding is_agent agent_of
is-agent f Node.stop g e = cc
is-agent f (Node.new n l) g e = cc
is-agent f (Node.par l r) g e = cc
is-agent f (Node.choice l r) g e = cc
is-agent f (Node.agent s x ys l) g e = refl

pub acts-agent : (a : Array) → refusal8 a ≡ clear → (i : ℕ) (g : Agent) → agent_at a i ≡ some g → is_agent (node_at a i) ≡ true
acts-agent a ok i g e = is-agent (λ l. proc_at a l) (node_at a i) g (sym (agent-at a ok i (agent-below a i g e)) ∙ e)

-- names that are free are below N
pub free-below : (a : Array) (p : Proc) (v : ℕ) → Wf a p → is_free p v ≡ true → v < a.names
unfolding is_free free_below
free-below a Proc.stop v w e = absurd (false≢true e)
free-below a (Proc.new n p) v w e = free-below a p v w.2 (and_split (not (eqb v n)) (is_free p v) e).1
free-below a (Proc.par p q) v w e = ⊎_elim (free-below a p v w.0) (free-below a q v w.1) (or_split (is_free p v) (is_free q v) e)
free-below a (Proc.choice i p q) v w e = ⊎_elim (free-below a p v w.0) (free-below a q v w.1) (or_split (is_free p v) (is_free q v) e)
free-below a (Proc.agent i s x ys p) v w e =
    ⊎_elim (λ (k : eqb v x ≡ true). subst (λ z. z < a.names) (sym (eqb-true v x k)) w.0.channel)
    (λ (k : free_below s (has ys v) (is_free p v) ≡ true). inside s k (free-below a p v w.1)) (or_split (eqb v x) (free_below s (has ys v) (is_free p v)) e)
  where
    argument : has ys v ≡ true → v < a.names
    argument k = All-has (λ y. y < a.names) ys v w.0.args k

    inside : (s : Sort) → free_below s (has ys v) (is_free p v) ≡ true → (is_free p v ≡ true → v < a.names) → v < a.names
    inside out k below = ⊎_elim argument below (or_split (has ys v) (is_free p v) k)
    inside inp k below = below (and_split (not (has ys v)) (is_free p v) k).1
    inside resource k below = below (and_split (not (has ys v)) (is_free p v) k).1
