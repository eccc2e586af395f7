-- The load of a node by its record, and the list of loads while node i's row is filled.
use Prim.Native.Nat.{ℕ, ◌+◌, ◌≤◌, ◌<◌, max}
use native.Mathlib.Nat.{eq-or-lt_of_le}
use native.Mathlib.Omega.{arith}
use mathlib.Core.Path.{◌≡◌, refl, sym, ap, ap₂, ◌∙◌}
use mathlib.Core.Logic.{⊎_elim}
use mathlib.Core.Bool.{true, cond}
use mathlib.Core.List.{List, [], ◌∷◌}
use lib.ListN.{length, set}
use lib.Seq.{get_or-set_same, get_or-set_other}
use Rattle.laws.specs.Lists.{has}
use Rattle.laws.proofs.Lists.{has_here, has-later}
use Rattle.model.specs.Tree.{Array, Node, proc_at, load, is_agent}
use Rattle.model.specs.Nodes.{load_of}
use Rattle.model.specs.Formed.{children, WellFormed}
use Rattle.model.specs.Rules.{Table}
use Rattle.model.proofs.Nodes.{load_at}
use Rattle.model.proofs.Bounds.{load-bound}
use Rattle.records.specs.declared.Record.{Record}
use Rattle.records.specs.declared.Trailer.{Trailer}
use Rattle.records.specs.Record.{record_of, node_of, array_of}
use Rattle.records.specs.Kinds.{is_stop, is_new_node, is_par}
use Rattle.records.proofs.Laws.{node-read, child-of}
use Rattle.records.proofs.KindLaws.{by-node}
use Rattle.loads.specs.Loads.{entry_index, load_in, Half, load_from, FilledFrom}

-- two loads of a node's children that agree give the node one load
load-agree : (v w : ℕ → ℕ) (i j : ℕ) (f g : ℕ → ℕ) (n : Node) → v i ≡ w j
    → ((c : ℕ) → has (children n) c ≡ true → f c ≡ g c) → load_of v i f n ≡ load_of w j g n
unfolding load_of children
load-agree v w i j f g Node.stop e h = refl
load-agree v w i j f g (Node.new n l) e h = h l (has_here l [])
load-agree v w i j f g (Node.par l r) e h = ap₂ ◌+◌ (h l (has_here l (r ∷ []))) (h r (has-later l (r ∷ []) r (has_here r [])))
load-agree v w i j f g (Node.choice l r) e h = ap₂ max (h l (has_here l (r ∷ []))) (h r (has-later l (r ∷ []) r (has_here r [])))
load-agree v w i j f g (Node.agent s x ys l) e h = e

-- ---- a record's load, by the kinds' names

-- with f and g for the loads of the left and the right child
abbrev by_node : Node → ℕ → ℕ → ℕ → ℕ
by_node n w f g = cond (is_agent n) w (cond (is_stop n) 0 (cond (is_new_node n) f (cond (is_par n) (f + g) (max f g))))

pub load-node : (loads : List ℕ) (r : Record) (k w : ℕ)
    → load_from loads r k w ≡ by_node (node_of r) w (load_in loads r.left k) (load_in loads r.right k)
unfolding load_of is_agent is_stop is_new_node is_par
load-node loads r k w =
    by-node r (λ n. load_of (λ i. w) 0 (λ c. load_in loads c k) n ≡ by_node n w (load_in loads r.left k) (load_in loads r.right k))
    refl refl refl refl refl

-- ---- the list while node i's row is filled

-- the rows above row i are as they were
abbrev pub SameAbove : List ℕ → List ℕ → ℕ → Type 0
SameAbove before after i = (j k : ℕ) → i < j → k < 24 → load_in after j k ≡ load_in before j k

-- row i holds the loads from record r, weight w k and the list as it was, in the balances below n
abbrev pub RowTo : List ℕ → List ℕ → Record → (ℕ → ℕ) → ℕ → ℕ → Type 0
RowTo before after r w i n = (k : ℕ) → k < n → load_in after i k ≡ load_from before r k (w k)

-- entry k of row i is written
module _ (before after : List ℕ) (i k : ℕ) (few : k < 24) (fits : entry_index i k < length after) (above : SameAbove before after i) (v : ℕ) where
  pub above-set : SameAbove before (set after (entry_index i k) v) i
  above-set j m l h = get_or-set_other after (entry_index i k) (entry_index j m) v 0 (λ e. omega arith) ∙ above j m l h

  pub row-set : (r : Record) (w : ℕ → ℕ) → ((c : ℕ) → has (children (node_of r)) c ≡ true → i < c) → v ≡ load_from after r k (w k)
      → RowTo before after r w i k → RowTo before (set after (entry_index i k) v) r w i (k + 1)
  row-set r w kids e row m h =
      ⊎_elim
      (λ (q : m ≡ k).
      rw q
      (get_or-set_same after (entry_index i k) v 0 fits ∙ e
      ∙ load-agree (λ j. w k) (λ j. w k) 0 0 _ (λ c. load_in before c k) (node_of r) refl (λ c g. above c k (kids c g) few)))
      (λ (l : m < k). get_or-set_other after (entry_index i k) (entry_index i m) v 0 (λ e. omega arith) ∙ row m l)
      (eq-or-lt_of_le (omega arith))

-- ---- the loads of the process tree

-- an entry that is a load is at most what 1024 nodes of 16-bit weights could weigh
pub small-load : (a : Array) → WellFormed a → (w : ℕ → ℕ) → ((j : ℕ) → w j ≤ 65535) → (loads : List ℕ) → (i k : ℕ) → i < a.size
    → load_in loads i k ≡ load w (proc_at a i) → load_in loads i k < 134217728
small-load a ok w small loads i k h e =
    let n = ok.few_nodes in
    let b = load-bound a ok.children ok.parents w i h 65535 small in
    omega arith

pub half-load : (a : Array) → WellFormed a → (w : ℕ → ℕ) → ((j : ℕ) → w j ≤ 65535) → (loads : List ℕ) → length loads ≡ 24578
    → (i k : ℕ) → i < a.size → k < 24 → load_in loads i k ≡ load w (proc_at a i) → Half loads i k
half-load a ok w small loads size i k h few e =
    let n = ok.few_nodes in
    let b = small-load a ok w small loads i k h e in
    (omega arith, omega arith)

module _ (s : List ℕ) (t : Trailer) (ok : WellFormed (array_of s t)) (i : ℕ) (h : i < t.nodes) (r : Record) (e : r ≡ record_of s t i) where
  module _ (tab : Table) (few : tab.balances ≤ 24) (before after : List ℕ) (filled : FilledFrom before (array_of s t) tab (i + 1))
      (above : SameAbove before after i) where
    -- the entry of a child is there
    pub half-child : length after ≡ 24578 → (k : ℕ) → k < tab.balances → ((j : ℕ) → (tab.balance k).weight j ≤ 65535)
        → (c : ℕ) → has (children (node_of r)) c ≡ true → Half after c k
    half-child size k l small c g =
        let f = child-of s t i r h e ok.children c g in
        half-load (array_of s t) ok (tab.balance k).weight small after size c k f.1 (omega arith)
        (above c k f.0 (omega arith) ∙ filled c k (omega (arith, f.0)) f.1 l)

    pub filled_row : RowTo before after r (λ k. (tab.balance k).weight i) i tab.balances → FilledFrom after (array_of s t) tab i
    filled_row row j k l b g =
        ⊎_elim
        (λ (q : i ≡ j). rw (← q) (row k g ∙ node-load (tab.balance k).weight (λ c x y. filled c k (omega arith) y g)))
        (λ (m : i < j). above j k m (omega arith) ∙ filled j k (omega arith) b g)
        (eq-or-lt_of_le l)
      where
        node-load : (w : ℕ → ℕ) → ((c : ℕ) → i < c → c < t.nodes → load_in before c k ≡ load w (proc_at (array_of s t) c))
            → load_from before r k (w i) ≡ load w (proc_at (array_of s t) i)
        node-load w known =
            load-agree (λ j. w i) w 0 i _ (λ c. load w (proc_at (array_of s t) c)) (node_of r) refl
            (λ c g. let f = child-of s t i r h e ok.children c g in known c f.0 f.1)
            ∙ sym (load_at (array_of s t) ok.children i h w ∙ ap (load_of w i (λ c. load w (proc_at (array_of s t) c))) (node-read s t i r h e))
