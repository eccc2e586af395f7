-- What is known of a record that was read, and of the array that the records stand for.
use Prim.Native.Nat.{ℕ, ◌+◌, ◌≤◌, ◌<◌}
use native.Mathlib.Omega.{arith}
use mathlib.Core.Path.{◌≡◌, refl, sym, ap, ◌∙◌}
use mathlib.Core.Bool.{true}
use mathlib.Core.List.{List}
use lib.ListN.{length, drop, length-drop}
use lib.Seq.{length-take-le}
use borrow.Author.Tests.{lt-ltb, le-ltb}
use Rattle.laws.specs.Search.{clear}
use Rattle.laws.specs.Lists.{has}
use Rattle.model.specs.Tree.{Array, Node, out, inp, resource, node_at}
use Rattle.model.specs.Formed.{children, refusal8}
use Rattle.model.proofs.Tree.{child-above}
use Rattle.records.specs.declared.Kind.{Kind}
use Rattle.records.specs.declared.Kind.TheVariants as K
use Rattle.records.specs.declared.Record.{Record}
use Rattle.records.specs.declared.Trailer.{Trailer}
use Rattle.records.specs.Record.{record_at, record_of, args_of, sort_of, kind_number, node_for, node_of, array_of}

-- a record inside the file has its 8 argument bytes
pub eight-args : (s : List ℕ) (b : ℕ) → b + 15 < length s → length (record_at s b).args ≡ 8
eight-args s b h = length-take-le 8 (drop (b + 8) s) (simp length-drop (omega arith))

-- a statement of a record's kind and of its node, kind by kind
module _ (r : Record) (P : Kind → Node → Type 0)
    (stops : P K.Stop Node.stop)
    (news : P K.New (Node.new r.name r.left))
    (pars : P K.Par (Node.par r.left r.right))
    (choices : P K.Choice (Node.choice r.left r.right)) where
  pub by_each : P K.Out (Node.agent out r.name (args_of r) r.left) → P K.In (Node.agent inp r.name (args_of r) r.left)
      → P K.Resource (Node.agent resource r.name (args_of r) r.left) → ((k : ℕ) → P (K.Other k) (Node.agent resource r.name (args_of r) r.left))
      → P r.kind (node_of r)
  unfolding node_of
  by_each outs ins resources others = go r.kind
    where
      go : (k : Kind) → P k (node_for k r)
      go K.Stop = stops
      go K.New = news
      go K.Par = pars
      go K.Choice = choices
      go K.Out = outs
      go K.In = ins
      go K.Resource = resources
      go (K.Other k) = others k

  -- kinds above 3 read as agents
  pub by_kind : ((k : Kind) → 3 < kind_number k → P k (Node.agent (sort_of r) r.name (args_of r) r.left)) → P r.kind (node_of r)
  unfolding node_of sort_of
  by_kind agents = go r.kind refl
    where
      go : (k : Kind) → r.kind ≡ k → P k (node_for k r)
      go K.Stop e = stops
      go K.New e = news
      go K.Par e = pars
      go K.Choice e = choices
      go K.Out e = rw e at (agents K.Out (omega arith))
      go K.In e = rw e at (agents K.In (omega arith))
      go K.Resource e = rw e at (agents K.Resource (omega arith))
      go (K.Other k) e = rw e at (agents (K.Other k) (omega arith))

-- the node at a number below M is the one that its record stands for
pub node-of : (s : List ℕ) (t : Trailer) (i : ℕ) → i < t.nodes → node_at (array_of s t) i ≡ node_of (record_of s t i)
unfolding node_at
node-of s t i h = rw (lt-ltb i t.nodes h)

-- and past M there is none
pub node-past : (a : Array) (i : ℕ) → a.size ≤ i → node_at a i ≡ Node.stop
unfolding node_at
node-past a i h = rw (le-ltb i a.size h)

-- ---- node i, whose record was read

module _ (s : List ℕ) (t : Trailer) (i : ℕ) (r : Record) (h : i < t.nodes) (e : r ≡ record_of s t i) where
  pub node-read : node_at (array_of s t) i ≡ node_of r
  node-read = node-of s t i h ∙ ap node_of (sym e)

  pub child-of : refusal8 (array_of s t) ≡ clear → (c : ℕ) → has (children (node_of r)) c ≡ true → (i < c) × (c < t.nodes)
  child-of ok c k = child-above (array_of s t) ok i c (rw node-read k)
