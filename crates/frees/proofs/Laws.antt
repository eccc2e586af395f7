-- The row of the names that news open; the free names of a node from what it uses, what it binds and what is free in its children; and
-- the table while node i's row is filled.
use Prim.Native.Nat.{ℕ, ◌+◌, ◌*◌, ◌/◌, ◌%◌, ◌<◌}
use native.Mathlib.Nat.{eq-or-lt_of_le, zero-add}
use native.Mathlib.Omega.{arith}
use mathlib.Core.Path.{◌≡◌, refl, sym, ap, ap₂, ◌∙◌}
use mathlib.Core.Logic.{◌≢◌, ⊎_elim}
use mathlib.Core.Bool.{Bool, true, not, ◌&&◌, ◌||◌, or-false, or_assoc}
use mathlib.Core.List.{List, [], ◌∷◌}
use lib.Bits.{bit_and, bit_or, bit_xor}
use lib.Dec.{eqb}
use lib.ListN.{length, get_or, set}
use lib.Seq.{get_or-set_same, get_or-set_other}
use Rattle.laws.specs.Search.{clear, any}
use Rattle.laws.specs.Lists.{has}
use Rattle.laws.specs.Bits.{bit}
use Rattle.laws.proofs.Search.{any_step}
use Rattle.laws.proofs.Lists.{has_here, has-later}
use Rattle.laws.proofs.Bits.{bit-or, bit-less}
use Rattle.marks.specs.Marks.{word_at, marked, mark_if}
use Rattle.marks.proofs.Laws.{marked_more}
use Rattle.model.specs.Tree.{Array, Sort, Node, out, inp, resource, free_below, node_at, proc_at, is_free, is_agent, opens}
use Rattle.model.specs.Memory.{is_out}
use Rattle.model.specs.Nodes.{free_of}
use Rattle.model.specs.Formed.{children, params, binds, sent, uses, refusal8}
use Rattle.model.proofs.Tree.{child-above}
use Rattle.model.proofs.Nodes.{free-at}
use Rattle.records.specs.declared.Record.{Record}
use Rattle.records.specs.declared.Trailer.{Trailer}
use Rattle.records.specs.Record.{args_of, record_of, sort_of, node_of, array_of}
use Rattle.records.specs.Kinds.{is_stop, is_new_node, is_par, is_choice}
use Rattle.records.proofs.Laws.{node-read}
use Rattle.records.proofs.KindLaws.{by-node}
use Rattle.frees.specs.Frees.{at_child, RowFilled, FreeFrom}

-- ---- the names that news open

opens_of : (r : Record) (o : ℕ) → opens (node_of r) o ≡ is_new_node (node_of r) && eqb o r.name
unfolding opens is_new_node
opens_of r o = by-node r (λ n. opens n o ≡ is_new_node n && eqb o r.name) refl refl refl refl refl

-- the row has the names that the first j nodes open
abbrev pub Opened : Array → List ℕ → ℕ → Type 0
Opened a row j = (o : ℕ) → marked row 0 o ≡ any j (λ i. opens (node_at a i) o)

pub opened-more : (s : List ℕ) (t : Trailer) (row : List ℕ) (j : ℕ) (r : Record) → length row ≡ 4 → r.name < 256 → j < t.nodes → r ≡ record_of s t j
    → Opened (array_of s t) row j → Opened (array_of s t) (mark_if row (is_new_node (node_of r)) r.name) (j + 1)
opened-more s t row j r four small h e before o =
    marked_more row (is_new_node (node_of r)) r.name o four small
    ∙ ap₂ ◌||◌ (before o) (sym (opens_of r o) ∙ ap (λ (n : Node). opens n o) (sym (node-read s t j r h e)))
    ∙ sym (any_step (λ i. opens (node_at (array_of s t) i) o) j)

-- ---- a node's free names

agent-split : (s : Sort) (a : Bool) (ys : List ℕ) (v : ℕ) (b : Bool)
    → a || free_below s (has ys v) b ≡ (a || has (sent s ys) v) || (not (has (params s ys) v) && b)
unfolding free_below sent params has
agent-split out a ys v b = sym (or_assoc a (has ys v) b)
agent-split inp a ys v b = ap (λ (c : Bool). c || (not (has ys v) && b)) (sym (or-false a))
agent-split resource a ys v b = ap (λ (c : Bool). c || (not (has ys v) && b)) (sym (or-false a))

pub free-split : (f : ℕ → Bool) (n : Node) (v : ℕ) → free_of f n v ≡ has (uses n) v || (not (has (binds n) v) && at_child f n)
unfolding free_of uses binds at_child has
free-split f Node.stop v = refl
free-split f (Node.new n l) v = ap (λ (b : Bool). not b && f l) (sym (or-false (eqb v n)))
free-split f (Node.par l r) v = refl
free-split f (Node.choice l r) v = refl
free-split f (Node.agent s x ys l) v = agent-split s (eqb v x) ys v (f l)

-- tests that agree at the children
pub child-agree : (f g : ℕ → Bool) (n : Node) → ((c : ℕ) → has (children n) c ≡ true → f c ≡ g c) → at_child f n ≡ at_child g n
unfolding at_child children
child-agree f g Node.stop h = refl
child-agree f g (Node.new n l) h = h l (has_here l [])
child-agree f g (Node.par l r) h = ap₂ ◌||◌ (h l (has_here l (r ∷ []))) (h r (has-later l (r ∷ []) r (has_here r [])))
child-agree f g (Node.choice l r) h = ap₂ ◌||◌ (h l (has_here l (r ∷ []))) (h r (has-later l (r ∷ []) r (has_here r [])))
child-agree f g (Node.agent s x ys l) h = h l (has_here l [])

-- ---- a record's uses, and tests at its children

module _ (r : Record) where
  pub used-of : (v : ℕ) → has (uses (node_of r)) v ≡ (is_agent (node_of r) && eqb v r.name) || (is_out (node_of r) && has (args_of r) v)
  unfolding uses sent has is_agent is_out
  used-of v =
      by-node r (λ n. has (uses n) v ≡ (is_agent n && eqb v r.name) || (is_out n && has (args_of r) v)) refl refl refl refl (go (sort_of r))
    where
      go : (s : Sort) → eqb v r.name || has (sent s (args_of r)) v
          ≡ eqb v r.name || (is_out (Node.agent s r.name (args_of r) r.left) && has (args_of r) v)
      go out = refl
      go inp = refl
      go resource = refl

  -- a test at some child
  pub child-test : (f : ℕ → Bool)
      → at_child f (node_of r) ≡ not (is_stop (node_of r)) && (f r.left || ((is_par (node_of r) || is_choice (node_of r)) && f r.right))
  unfolding at_child is_stop is_par is_choice
  child-test f =
      by-node r (λ n. at_child f n ≡ not (is_stop n) && (f r.left || ((is_par n || is_choice n) && f r.right)))
      refl (sym (or-false _)) refl refl (sym (or-false _))

-- ---- the table while row i is filled

-- every word outside row i is as it was
abbrev pub SameElse : List ℕ → List ℕ → ℕ → Type 0
SameElse before after i = (j k : ℕ) → j ≢ i → k < 4 → get_or after (word_at j k) 0 ≡ get_or before (word_at j k) 0

-- the first n words of row i are right
abbrev pub RowTo : List ℕ → List ℕ → ℕ → Node → ℕ → Type 0
RowTo before after i m n = (v : ℕ) → v < 64 * n → marked after i v ≡ free_of (λ c. marked before c v) m v

module _ (before after : List ℕ) (i w : ℕ) (few : w < 4) (same : SameElse before after i) where
  pub else-set : (x : ℕ) → SameElse before (set after (word_at i w) x) i
  else-set x j k ne h = get_or-set_other after (word_at i w) (word_at j k) x 0 (λ e. ne (omega arith)) ∙ same j k ne h

  -- word w is written, by what is free below it
  module _ (fits : word_at i w < length after) (n : Node) (above : (c : ℕ) → has (children n) c ≡ true → i < c)
      (used bound : List ℕ) (uses-right : (v : ℕ) → v < 256 → marked used 0 v ≡ has (uses n) v)
      (binds-right : (v : ℕ) → v < 256 → marked bound 0 v ≡ has (binds n) v)
      (x : ℕ) (below : (k : ℕ) → bit x k ≡ at_child (λ c. bit (get_or after (word_at c w) 0) k) n) where
    abbrev word : ℕ
    word = bit_or (get_or used w 0) (bit_xor x (bit_and x (get_or bound w 0)))

    here : (v : ℕ) → v < 256 → v / 64 ≡ w → bit word (v % 64) ≡ free_of (λ c. marked before c v) n v
    unfolding marked
    here v h q =
        bit-or (get_or used w 0) (bit_xor x (bit_and x (get_or bound w 0))) (v % 64)
        ∙ ap₂ ◌||◌ (own used ∙ uses-right v h)
        (bit-less x (get_or bound w 0) (v % 64)
        ∙ ap₂ (λ (a b : Bool). not a && b) (own bound ∙ binds-right v h)
        (below (v % 64) ∙ child-agree _ (λ c. marked before c v) n (λ c g. kept c (above c g))))
        ∙ sym (free-split (λ c. marked before c v) n v)
      where
        own : (l : List ℕ) → bit (get_or l w 0) (v % 64) ≡ bit (get_or l (0 + v / 64) 0) (v % 64)
        own l = rw (zero-add, q)

        kept : (c : ℕ) → i < c → bit (get_or after (word_at c w) 0) (v % 64) ≡ bit (get_or before (word_at c (v / 64)) 0) (v % 64)
        kept c g = rw q (ap (λ (y : ℕ). bit y (v % 64)) (same c w (λ e. absurd (omega arith)) few))

    pub row-set : RowTo before after i n w → RowTo before (set after (word_at i w) word) i n (w + 1)
    unfolding marked
    row-set row v h =
        ⊎_elim
        (λ (q : v / 64 ≡ w).
        ap (λ (m : ℕ). bit (get_or (set after (word_at i w) word) (word_at i m) 0) (v % 64)) q
        ∙ ap (λ (y : ℕ). bit y (v % 64)) (get_or-set_same after (word_at i w) word 0 fits) ∙ here v (omega arith) q)
        (λ (l : v / 64 < w).
        ap (λ (y : ℕ). bit y (v % 64)) (get_or-set_other after (word_at i w) (word_at i (v / 64)) word 0 (λ q. absurd (omega arith)))
        ∙ row v (omega arith))
        (eq-or-lt_of_le (omega arith))

pub row-filled : (before after : List ℕ) (i : ℕ) (n : Node) → SameElse before after i → RowTo before after i n 4 → RowFilled before after i n
unfolding marked
row-filled before after i n same row = record {
  row = λ v h. row v (omega arith);
  rest = λ j v ne h. ap (λ (y : ℕ). bit y (v % 64)) (same j (v / 64) ne (omega arith));
}

-- ---- the free names of the process tree

free-agree : (f g : ℕ → Bool) (n : Node) (v : ℕ) → ((c : ℕ) → has (children n) c ≡ true → f c ≡ g c) → free_of f n v ≡ free_of g n v
free-agree f g n v h =
    free-split f n v ∙ ap (λ (b : Bool). has (uses n) v || (not (has (binds n) v) && b)) (child-agree f g n h) ∙ sym (free-split g n v)

module _ (a : Array) (ok : refusal8 a ≡ clear) (i : ℕ) (h : i < a.size) (before after : List ℕ) (free : FreeFrom before a (i + 1)) where
  pub free-row : RowFilled before after i (node_at a i) → FreeFrom after a i
  free-row filled j v l k b =
      ⊎_elim
      (λ (q : i ≡ j).
      rw (← q)
      (filled.row v b
      ∙ free-agree _ (λ c. is_free (proc_at a c) v) (node_at a i) v
      (λ c g. let f = child-above a ok i c g in free c v (omega (arith, f.0)) f.1 b)
      ∙ sym (free-at a ok i h v)))
      (λ (m : i < j). filled.rest j v (λ e. absurd (omega arith)) b ∙ free j v (omega arith) k b)
      (eq-or-lt_of_le l)
