-- The kinds by name: what each test says of the record's kind, and what a record that passes it stands for.
use Prim.Native.Nat.{ℕ, ◌<◌}
use native.Mathlib.Omega.{arith}
use mathlib.Core.Path.{◌≡◌, refl, sym, ap, ◌∙◌}
use mathlib.Core.Bool.{Bool, true, false, not, ◌&&◌, ◌||◌, false≢true, true≢false, or-false}
use lib.Dec.{eqb, leb, ltb}
use borrow.Author.Tests.{lt-ltb, le-leb, eq-eqb, ne_eqb, not-true, not-false}
use Rattle.laws.specs.Lists.{has}
use Rattle.laws.proofs.Search.{and-join, or_left, or_right}
use Rattle.model.specs.Tree.{Sort, out, inp, resource, Node, is_agent, receives}
use Rattle.model.specs.Memory.{is_out, is_resource}
use Rattle.model.specs.Formed.{children}
use Rattle.records.specs.declared.Kind.{Kind}
use Rattle.records.specs.declared.Kind.TheVariants as T
use Rattle.records.specs.declared.Record.{Record}
use Rattle.records.specs.Record.{kind_number, args_of, sort_for, sort_of, node_of}
use Rattle.records.specs.Kinds.{is_stop, is_new_node, is_par, is_choice, is_receiver}
use Rattle.records.proofs.Laws.{by_kind}

-- a kind is none below it
pub other : (k j : ℕ) → j < k → eqb k j ≡ false
other k j h = ne_eqb k j (λ e. omega arith)

-- a statement of an agent's kind and sort; kinds above 5 read as resource
module _ (r : Record) (P : Kind → Sort → Type 0) (outs : P T.Out out) (ins : P T.In inp)
    (resources : (k : Kind) → 5 < kind_number k → P k resource) where
  by-sort : (k : Kind) → 3 < kind_number k → r.kind ≡ k → P k (sort_of r)
  unfolding sort_of
  by-sort k h e = rw e (go k h)
    where
      go : (k : Kind) → 3 < kind_number k → P k (sort_for k)
      go T.Stop h = absurd (omega arith)
      go T.New h = absurd (omega arith)
      go T.Par h = absurd (omega arith)
      go T.Choice h = absurd (omega arith)
      go T.Out h = outs
      go T.In h = ins
      go T.Resource h = resources T.Resource (omega arith)
      go (T.Other k) h = resources (T.Other k) (omega arith)

module _ (r : Record) where
  -- ---- what the kind says

  pub stop-kind : eqb (kind_number r.kind) 0 ≡ is_stop (node_of r)
  unfolding is_stop
  stop-kind = by_kind r (λ k n. eqb (kind_number k) 0 ≡ is_stop n) refl refl refl refl (λ k h. other (kind_number k) 0 (omega arith))

  pub new-kind : eqb (kind_number r.kind) 1 ≡ is_new_node (node_of r)
  unfolding is_new_node
  new-kind = by_kind r (λ k n. eqb (kind_number k) 1 ≡ is_new_node n) refl refl refl refl (λ k h. other (kind_number k) 1 (omega arith))

  pub par-kind : eqb (kind_number r.kind) 2 ≡ is_par (node_of r)
  unfolding is_par
  par-kind = by_kind r (λ k n. eqb (kind_number k) 2 ≡ is_par n) refl refl refl refl (λ k h. other (kind_number k) 2 (omega arith))

  pub choice-kind : eqb (kind_number r.kind) 3 ≡ is_choice (node_of r)
  unfolding is_choice
  choice-kind = by_kind r (λ k n. eqb (kind_number k) 3 ≡ is_choice n) refl refl refl refl (λ k h. other (kind_number k) 3 (omega arith))

  pub continues-kind : ltb 0 (kind_number r.kind) ≡ not (is_stop (node_of r))
  unfolding is_stop
  continues-kind = by_kind r (λ k n. ltb 0 (kind_number k) ≡ not (is_stop n)) refl refl refl refl (λ k h. lt-ltb 0 (kind_number k) (omega arith))

  pub agent-kind : leb 4 (kind_number r.kind) ≡ is_agent (node_of r)
  unfolding is_agent
  agent-kind = by_kind r (λ k n. leb 4 (kind_number k) ≡ is_agent n) refl refl refl refl (λ k h. le-leb 4 (kind_number k) (omega arith))

  pub sends-kind : eqb (kind_number r.kind) 4 ≡ is_out (node_of r)
  unfolding is_out
  sends-kind =
      by_kind r (λ k n. r.kind ≡ k → eqb (kind_number k) 4 ≡ is_out n) (λ e. refl) (λ e. refl) (λ e. refl) (λ e. refl)
      (λ k h e. by-sort r (λ j s. eqb (kind_number j) 4 ≡ is_out (Node.agent s r.name (args_of r) r.left)) refl refl (λ j l. other (kind_number j) 4 (omega arith)) k h e) refl

  pub receives-kind : leb 5 (kind_number r.kind) ≡ is_receiver (node_of r)
  unfolding is_receiver receives
  receives-kind =
      by_kind r (λ k n. r.kind ≡ k → leb 5 (kind_number k) ≡ is_receiver n) (λ e. refl) (λ e. refl) (λ e. refl) (λ e. refl)
      (λ k h e. by-sort r (λ j s. leb 5 (kind_number j) ≡ is_receiver (Node.agent s r.name (args_of r) r.left)) refl refl (λ j l. le-leb 5 (kind_number j) (omega arith)) k h e) refl

  pub resource-kind : leb 6 (kind_number r.kind) ≡ is_resource (node_of r)
  unfolding is_resource
  resource-kind =
      by_kind r (λ k n. r.kind ≡ k → leb 6 (kind_number k) ≡ is_resource n) (λ e. refl) (λ e. refl) (λ e. refl) (λ e. refl)
      (λ k h e. by-sort r (λ j s. leb 6 (kind_number j) ≡ is_resource (Node.agent s r.name (args_of r) r.left)) refl refl (λ j l. le-leb 6 (kind_number j) (omega arith)) k h e) refl

  -- ---- node by node, without a kind

  pub by-node : (P : Node → Type 0) → P Node.stop → P (Node.new r.name r.left) → P (Node.par r.left r.right)
      → P (Node.choice r.left r.right) → P (Node.agent (sort_of r) r.name (args_of r) r.left) → P (node_of r)
  by-node P stops news pars choices agents = by_kind r (λ k n. P n) stops news pars choices (λ k h. agents)

  pub stop_is : is_stop (node_of r) ≡ true → node_of r ≡ Node.stop
  unfolding is_stop
  stop_is =
      by-node (λ n. is_stop n ≡ true → n ≡ Node.stop)
      (λ e. refl) (λ e. absurd (false≢true e)) (λ e. absurd (false≢true e)) (λ e. absurd (false≢true e)) (λ e. absurd (false≢true e))

  pub new_is : is_new_node (node_of r) ≡ true → node_of r ≡ Node.new r.name r.left
  unfolding is_new_node
  new_is =
      by-node (λ n. is_new_node n ≡ true → n ≡ Node.new r.name r.left)
      (λ e. absurd (false≢true e)) (λ e. refl) (λ e. absurd (false≢true e)) (λ e. absurd (false≢true e)) (λ e. absurd (false≢true e))

  pub par-is : is_par (node_of r) ≡ true → node_of r ≡ Node.par r.left r.right
  unfolding is_par
  par-is =
      by-node (λ n. is_par n ≡ true → n ≡ Node.par r.left r.right)
      (λ e. absurd (false≢true e)) (λ e. absurd (false≢true e)) (λ e. refl) (λ e. absurd (false≢true e)) (λ e. absurd (false≢true e))

  pub choice-is : is_choice (node_of r) ≡ true → node_of r ≡ Node.choice r.left r.right
  unfolding is_choice
  choice-is =
      by-node (λ n. is_choice n ≡ true → n ≡ Node.choice r.left r.right)
      (λ e. absurd (false≢true e)) (λ e. absurd (false≢true e)) (λ e. absurd (false≢true e)) (λ e. refl) (λ e. absurd (false≢true e))

  pub agent-is : is_agent (node_of r) ≡ true → node_of r ≡ Node.agent (sort_of r) r.name (args_of r) r.left
  unfolding is_agent
  agent-is =
      by-node (λ n. is_agent n ≡ true → n ≡ Node.agent (sort_of r) r.name (args_of r) r.left)
      (λ e. absurd (false≢true e)) (λ e. absurd (false≢true e)) (λ e. absurd (false≢true e)) (λ e. absurd (false≢true e)) (λ e. refl)

  -- what is none of the others is an agent
  pub rest-agent : is_stop (node_of r) ≡ false → is_new_node (node_of r) ≡ false → is_par (node_of r) ≡ false → is_choice (node_of r) ≡ false
      → is_agent (node_of r) ≡ true
  unfolding is_stop is_new_node is_par is_choice is_agent
  rest-agent =
      by-node (λ n. is_stop n ≡ false → is_new_node n ≡ false → is_par n ≡ false → is_choice n ≡ false → is_agent n ≡ true)
      (λ e f g h. absurd (true≢false e)) (λ e f g h. absurd (true≢false f)) (λ e f g h. absurd (true≢false g)) (λ e f g h. absurd (true≢false h))
      (λ e f g h. refl)

  -- an agent continues, and neither branches nor opens
  pub agent-continues : is_agent (node_of r) ≡ true → is_stop (node_of r) ≡ false
  unfolding is_stop
  agent-continues e = ap is_stop (agent-is e)

  -- ---- an agent's sort

  pub receiver-is : is_receiver (node_of r) ≡ true → (is_agent (node_of r) ≡ true) × (receives (sort_of r) ≡ true)
  unfolding is_receiver is_agent
  receiver-is =
      by-node (λ n. is_receiver n ≡ true → (is_agent n ≡ true) × (receives (sort_of r) ≡ true))
      (λ e. absurd (false≢true e)) (λ e. absurd (false≢true e)) (λ e. absurd (false≢true e)) (λ e. absurd (false≢true e)) (λ e. (refl, e))

  pub sender-is : is_out (node_of r) ≡ true → (is_agent (node_of r) ≡ true) × (sort_of r ≡ out)
  unfolding is_out is_agent
  sender-is =
      by-node (λ n. is_out n ≡ true → (is_agent n ≡ true) × (sort_of r ≡ out))
      (λ e. absurd (false≢true e)) (λ e. absurd (false≢true e)) (λ e. absurd (false≢true e)) (λ e. absurd (false≢true e)) (λ e. (refl, go (sort_of r) e))
    where
      go : (s : Sort) → is_out (Node.agent s r.name (args_of r) r.left) ≡ true → s ≡ out
      go out e = refl
      go inp e = absurd (false≢true e)
      go resource e = absurd (false≢true e)

  -- by its sort, an agent receives, sends or is a resource
  pub agent-sort : is_agent (node_of r) ≡ true
      → (is_receiver (node_of r) ≡ receives (sort_of r)) × (is_out (node_of r) ≡ not (receives (sort_of r)))
  unfolding is_receiver is_out receives
  agent-sort e = rw (agent-is e) (refl, go (sort_of r))
    where
      go : (s : Sort) → is_out (Node.agent s r.name (args_of r) r.left) ≡ not (receives s)
      go out = refl
      go inp = refl
      go resource = refl

  pub resource-is : is_resource (node_of r) ≡ true → sort_of r ≡ resource
  unfolding is_resource
  resource-is =
      by-node (λ n. is_resource n ≡ true → sort_of r ≡ resource)
      (λ e. absurd (false≢true e)) (λ e. absurd (false≢true e)) (λ e. absurd (false≢true e)) (λ e. absurd (false≢true e)) (go (sort_of r))
    where
      go : (s : Sort) → is_resource (Node.agent s r.name (args_of r) r.left) ≡ true → s ≡ resource
      go out e = absurd (false≢true e)
      go inp e = absurd (false≢true e)
      go resource e = refl

  -- a receiver that is no resource is an in
  pub in_is : is_receiver (node_of r) ≡ true → is_resource (node_of r) ≡ false → sort_of r ≡ inp
  unfolding is_receiver is_resource receives
  in_is =
      by-node (λ n. is_receiver n ≡ true → is_resource n ≡ false → sort_of r ≡ inp)
      (λ e f. absurd (false≢true e)) (λ e f. absurd (false≢true e)) (λ e f. absurd (false≢true e)) (λ e f. absurd (false≢true e)) (go (sort_of r))
    where
      go : (s : Sort) → is_receiver (Node.agent s r.name (args_of r) r.left) ≡ true
          → is_resource (Node.agent s r.name (args_of r) r.left) ≡ false → s ≡ inp
      go out e f = absurd (false≢true e)
      go inp e f = refl
      go resource e f = absurd (true≢false f)

  -- ---- the kinds apart

  pub agent-one : is_agent (node_of r) ≡ true → is_par (node_of r) || is_choice (node_of r) ≡ false
  unfolding is_par is_choice
  agent-one e = rw (agent-is e)

  pub agent-opens : is_agent (node_of r) ≡ true → is_new_node (node_of r) ≡ false
  unfolding is_new_node
  agent-opens e = rw (agent-is e)

  pub out-binds : is_agent (node_of r) ≡ true → is_out (node_of r) ≡ true → is_receiver (node_of r) ≡ false
  out-binds e o = let s = agent-sort e in s.0 ∙ not-true (receives _) (sym s.1 ∙ o)

  pub in-binds : is_agent (node_of r) ≡ true → is_out (node_of r) ≡ false → is_receiver (node_of r) ≡ true
  in-binds e o = let s = agent-sort e in s.0 ∙ not-false (receives _) (sym s.1 ∙ o)

  pub other-binds : is_agent (node_of r) ≡ false → is_receiver (node_of r) ≡ false
  unfolding is_agent is_receiver
  other-binds =
      by-node (λ n. is_agent n ≡ false → is_receiver n ≡ false) (λ e. refl) (λ e. refl) (λ e. refl) (λ e. refl) (λ e. absurd (true≢false e))

  pub stop-one : is_stop (node_of r) ≡ true → (is_par (node_of r) || is_choice (node_of r) ≡ false) × (is_new_node (node_of r) ≡ false)
  unfolding is_par is_choice is_new_node
  stop-one e = rw (stop_is e) (refl, refl)

  pub new-one : is_new_node (node_of r) ≡ true → is_par (node_of r) || is_choice (node_of r) ≡ false
  unfolding is_par is_choice
  new-one e = rw (new_is e)

  -- what is neither agent nor stop nor new has two children
  pub rest-branches : is_agent (node_of r) ≡ false → is_stop (node_of r) ≡ false → is_new_node (node_of r) ≡ false
      → is_par (node_of r) || is_choice (node_of r) ≡ true
  unfolding is_agent is_stop is_new_node is_par is_choice
  rest-branches =
      by-node (λ n. is_agent n ≡ false → is_stop n ≡ false → is_new_node n ≡ false → is_par n || is_choice n ≡ true)
      (λ a s n. absurd (true≢false s)) (λ a s n. absurd (true≢false n)) (λ a s n. refl) (λ a s n. refl) (λ a s n. absurd (true≢false a))

  -- ---- children

  pub children-of : (c : ℕ)
      → has (children (node_of r)) c ≡ (not (is_stop (node_of r)) && eqb c r.left) || ((is_par (node_of r) || is_choice (node_of r)) && eqb c r.right)
  unfolding children has is_stop is_par is_choice
  children-of c =
      by-node (λ n. has (children n) c ≡ (not (is_stop n) && eqb c r.left) || ((is_par n || is_choice n) && eqb c r.right)) refl refl two two refl
    where
      two : eqb c r.left || (eqb c r.right || false) ≡ eqb c r.left || eqb c r.right
      two = ap (λ (b : Bool). eqb c r.left || b) (or-false _)

  pub left-child : is_stop (node_of r) ≡ false → has (children (node_of r)) r.left ≡ true
  left-child e = children-of r.left ∙ or_left _ _ (and-join (ap not e) (eq-eqb r.left r.left refl))

  pub right_child : is_par (node_of r) || is_choice (node_of r) ≡ true → has (children (node_of r)) r.right ≡ true
  right_child e =
      children-of r.right ∙ or_right (not (is_stop (node_of r)) && eqb r.right r.left) _ (and-join e (eq-eqb r.right r.right refl))
