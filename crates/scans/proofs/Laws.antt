-- The pass: what the tables hold while nodes are passed (`Scanned`), one node more, and what follows at the end.
use Prim.Native.Nat.{ℕ, zero, suc, ◌+◌, ◌*◌, ◌≤◌, ◌<◌}
use native.Mathlib.Nat.{eq-or-lt_of_le, not-suc-le-zero}
use native.Mathlib.Omega.{arith}
use mathlib.Core.Path.{◌≡◌, refl, sym, ap, ◌∙◌}
use mathlib.Core.Logic.{◌⊎◌, inl, inr, ◌≢◌, ⊎_elim}
use mathlib.Core.Bool.{Bool, true, false, ◌&&◌, ◌||◌, false≢true, or_comm}
use mathlib.Core.List.{List, [], ◌∷◌, ◌++◌}
use lib.Dec.{eqb, leb, ltb}
use lib.ListN.{length, get_or, replicate, length-replicate}
use borrow.Author.Tests.{eqb-true, eqb-false, eq-eqb, lt-leb}
use Rattle.laws.specs.Search.{clear, first, every, sum}
use Rattle.laws.specs.Lists.{all, has, times}
use Rattle.laws.proofs.Search.{decided, and_split, or_split, or_right, test-clear, clear-test, first-zero, first-pass, first-clear, clear_first}
use Rattle.laws.proofs.Search.{every_true, any-true, sum_one}
use Rattle.laws.proofs.Lists.{All-has, all-has, has_all, has-times, times-has, slice_index-zeros}
use Rattle.marks.specs.Marks.{marked}
use Rattle.marks.proofs.Laws.{marked-none}
use Rattle.model.specs.Tree.{Array, Node, node_at}
use Rattle.model.specs.Formed.{refuse, children, binds, uses, fields_to, binders, reaches, in_reach}
use Rattle.model.specs.Formed.{refusal8, refusal9, refusal10, refusal11, refusal12}
use Rattle.model.proofs.Tree.{parent-below}
use Rattle.model.proofs.Reach.{parent, reach-root, reach-child}
use Rattle.records.specs.declared.Trailer.{Trailer}
use Rattle.records.specs.Record.{record_of, node_of, array_of}
use Rattle.records.proofs.Laws.{node-of}
use Rattle.fields.specs.Fields.{shape_fits, unused_zero, children_fit, refusal6, refusal7}
use Rattle.fields.proofs.Laws.{refusal8-by}
use Rattle.counts.proofs.Laws.{Counted, counted_none, counted-more, counted-below, zeros-below, few-args, binds-le, adds, counted-all}
use Rattle.scopes.proofs.Table.{uses-bytes, binds-bytes}
use Rattle.scans.proofs.Node.{no-child}
use Rattle.scans.specs.Pass.{Clear, count_fits, Ready, Passed}

-- a number that does not stand in a list stands there 0 times
none-times : (xs : List ℕ) (v : ℕ) → has xs v ≡ false → times xs v ≡ 0
none-times xs v e = go (times xs v) refl
  where
    go : (n : ℕ) → times xs v ≡ n → times xs v ≡ 0
    go zero q = q
    go (suc n) q = absurd (false≢true (sym e ∙ times-has xs v (omega arith)))

times_none : (xs : List ℕ) (v : ℕ) → times xs v ≡ 0 → has xs v ≡ false
times_none xs v e =
    ⊎_elim (λ (h : has xs v ≡ true). absurd (omega (arith, has-times xs v h))) (λ (h : has xs v ≡ false). h) (decided (has xs v))

-- ---- the tables after the nodes below j

pub blank-length : {n : ℕ} (xs : List ℕ) → xs ≡ replicate n 0 → length xs ≡ n
blank-length {n} xs e = ap length e ∙ length-replicate {A = ℕ} n 0

-- a table that has counted has as many entries as it had
pub wide : (n : ℕ) {m : ℕ} → m ≡ length {A = ℕ} (replicate n 0) → m ≡ n
wide n e = e ∙ length-replicate {A = ℕ} n 0

abbrev node : List ℕ → Trailer → ℕ → Node
node s t k = node_of (record_of s t k)

-- child c of node p, which one field names, has the names of node p and what node p binds
abbrev Linked : ℕ → List ℕ → Trailer → List ℕ → List ℕ → ℕ → Type 0
Linked width s t reach parents j =
    (p c v : ℕ) → p < j → has (children (node s t p)) c ≡ true → c < width → get_or parents c 0 ≡ 1 → v < 256
    → marked reach c v ≡ marked reach p v || has (binds (node s t p)) v

-- the tables have room for width nodes
pub record Scanned (width : ℕ) (s : List ℕ) (t : Trailer) (reach parents bound : List ℕ) (j : ℕ) : Type 0 where
  pub shapes : first j (λ i. refuse 6 i (shape_fits (record_of s t i))) ≡ clear
  pub unused : first j (λ i. refuse 7 i (unused_zero (record_of s t i))) ≡ clear
  pub fits : first j (λ i. refuse 8 i (children_fit t.nodes i (record_of s t i))) ≡ clear
  pub rows : length reach ≡ 4 * width
  pub fields : Counted (replicate width 0) parents (adds children s t) j
  pub once : (i : ℕ) → i < j → i ≢ 0 → get_or parents i 0 ≡ 1
  pub counts : Counted (replicate 256 0) bound (adds binds s t) j
  pub root : (v : ℕ) → v < 256 → marked reach 0 v ≡ false
  pub linked : Linked width s t reach parents j
  pub used : (i v : ℕ) → i < j → has (uses (node s t i)) v ≡ true → v < 256 → marked reach i v ≡ true

pub scanned-start : (width : ℕ) (s : List ℕ) (t : Trailer) {reach parents bound : List ℕ} → reach ≡ replicate (4 * width) 0
    → parents ≡ replicate width 0 → bound ≡ replicate 256 0 → Scanned width s t reach parents bound 0
scanned-start width s t e f g = record {
  shapes = first-zero _;
  unused = first-zero _;
  fits = first-zero _;
  rows = blank-length _ e;
  fields = rw f (counted_none (replicate width 0) (adds children s t));
  once = λ i h. absurd (not-suc-le-zero h);
  counts = rw g (counted_none (replicate 256 0) (adds binds s t));
  root = λ v h. rw e (marked-none (4 * width) 0 v);
  linked = λ p c v h. absurd (not-suc-le-zero h);
  used = λ i v h. absurd (not-suc-le-zero h);
}

-- ---- one node more

module _ (width : ℕ) (s : List ℕ) (t : Trailer) (reach parents bound : List ℕ) (j : ℕ) (h : Scanned width s t reach parents bound j)
    (room : t.nodes ≤ width) where
  -- there is room, since a node adds at most 9 to a count of binders
  pub scanned-ready : t.nodes ≤ 1024 → j < t.nodes → Ready t.nodes j reach parents bound
  scanned-ready few l = record {
    here = l;
    rows = let e = h.rows in omega arith;
    nodes = let e = wide width h.fields.0 in omega arith;
    names = h.counts.0;
    few_names =
        counted-below (replicate 256 0) bound (adds binds s t) j h.counts 1 9 60000 (zeros-below 256)
        (λ k. binds-le (record_of s t k) (few-args s (t.start + 16 * k))) (omega arith);
  }

  counted-at : (v : ℕ) → v < width → get_or parents v 0 ≡ sum j (λ k. adds children s t k v)
  counted-at v l = let e = h.fields.1 v (rw length-replicate l) in let z = slice_index-zeros width v in omega arith

  -- a child of a node that was passed is counted
  counted-child : (p c : ℕ) → p < j → has (children (node s t p)) c ≡ true → c < width → 1 ≤ get_or parents c 0
  counted-child p c l e k =
      omega (arith, counted-at c k, sum_one j (λ i. adds children s t i c) p l, has-times (children (node s t p)) c e)

  module _ (l : j < t.nodes) (count : eqb j 0 || eqb (get_or parents j 0) 1 ≡ true) (reach' parents' bound' : List ℕ)
      (fit : Passed t.nodes j (record_of s t j) reach parents bound reach' parents' bound') where
    more-at : (c : ℕ) → c < width → get_or parents' c 0 ≡ get_or parents c 0 + times (children (node s t j)) c
    more-at c k = fit.fields c (let e = wide width h.fields.0 in omega arith)

    -- nothing that is written concerns a node up to j
    same_count : (i : ℕ) → i ≤ j → get_or parents' i 0 ≡ get_or parents i 0
    same_count i k = omega (arith, more-at i (omega arith), none-times _ i (no-child t.nodes j (record_of s t j) fit.above i k))

    same_row : (i v : ℕ) → v < 256 → has (children (node s t j)) i ≡ false → marked reach' i v ≡ marked reach i v
    same_row i v k e = fit.down.rows i v k ∙ rw e

    early-row : (i v : ℕ) → v < 256 → i ≤ j → marked reach' i v ≡ marked reach i v
    early-row i v k e = same_row i v k (no-child t.nodes j (record_of s t j) fit.above i e)

    once_more : (i : ℕ) → i < j + 1 → i ≢ 0 → get_or parents' i 0 ≡ 1
    once_more i k n = same_count i (omega arith) ∙ go (eq-or-lt_of_le (omega arith))
      where
        go : (i ≡ j) ⊎ (i < j) → get_or parents i 0 ≡ 1
        go (inl q) =
            ⊎_elim (λ (z : eqb j 0 ≡ true). absurd (n (q ∙ eqb-true j 0 z))) (λ (z : eqb (get_or parents j 0) 1 ≡ true). rw q (eqb-true _ 1 z))
            (or_split (eqb j 0) (eqb (get_or parents j 0) 1) count)
        go (inr q) = h.once i q n

    linked-more : Linked width s t reach' parents' (j + 1)
    linked-more p c v k e b one w = go (eq-or-lt_of_le (omega arith))
      where
        go : (p ≡ j) ⊎ (p < j) → marked reach' c v ≡ marked reach' p v || has (binds (node s t p)) v
        go (inl q) =
            rw q
            (fit.down.rows c v w ∙ rw (ap (λ (i : ℕ). has (children (node s t i)) c) (sym q) ∙ e)
            (ap (λ (b : Bool). b || has (binds (node s t j)) v) (sym (early-row j v w (omega arith)))))
        go (inr q) =
            let first = counted-child p c q e b in
            let d = more-at c b in
            let z = times_none (children (node s t j)) c (omega arith) in
            same_row c v w z ∙ h.linked p c v q e b (omega arith) w
            ∙ ap (λ (b : Bool). b || has (binds (node s t p)) v) (sym (early-row p v w (omega arith)))

    used-more : (i v : ℕ) → i < j + 1 → has (uses (node s t i)) v ≡ true → v < 256 → marked reach' i v ≡ true
    used-more i v k e w = early-row i v w (omega arith) ∙ go (eq-or-lt_of_le (omega arith))
      where
        go : (i ≡ j) ⊎ (i < j) → marked reach i v ≡ true
        go (inl q) = rw q (all-has (marked reach j) (uses (node s t j)) v fit.used (ap (λ (i : ℕ). has (uses (node s t i)) v) (sym q) ∙ e))
        go (inr q) = h.used i v q e w

    pub scanned-step : length reach' ≡ length reach → length parents' ≡ length parents → length bound' ≡ length bound
        → Scanned width s t reach' parents' bound' (j + 1)
    scanned-step er ep eb = record {
      shapes = first-pass _ j h.shapes (clear-test _ _ fit.shape);
      unused = first-pass _ j h.unused (clear-test _ _ fit.zeros);
      fits = first-pass _ j h.fits (clear-test _ _ fit.above);
      rows = er ∙ h.rows;
      fields = counted-more (replicate width 0) parents (adds children s t) j h.fields parents' ep fit.fields;
      once = once_more;
      counts = counted-more (replicate 256 0) bound (adds binds s t) j h.counts bound' eb fit.bound;
      root = λ v w. early-row 0 v w (omega arith) ∙ h.root v w;
      linked = linked-more;
      used = used-more;
    }

-- ---- at the end

-- a name that reaches a node is bound by some node
reached-bound : (d : ℕ) (a : Array) (v i : ℕ) → reaches d a v i ≡ true → (j : ℕ) × (j < a.size) × (has (binds (node_at a j)) v ≡ true)
unfolding reaches
reached-bound zero a v i e = absurd (false≢true e)
reached-bound (suc d) a v i e =
    let s = any-true a.size (λ j. has (children (node_at a j)) i && (has (binds (node_at a j)) v || reaches d a v j)) e in
    let c = and_split (has (children (node_at a s.0)) i) _ s.2 in
    ⊎_elim (λ (b : has (binds (node_at a s.0)) v ≡ true). (s.0, s.1, b)) (λ (b : reaches d a v s.0 ≡ true). reached-bound d a v s.0 b)
    (or_split (has (binds (node_at a s.0)) v) (reaches d a v s.0) c.1)

all_join : (f : ℕ → Bool) (xs ys : List ℕ) → all f xs ≡ true → all f ys ≡ true → all f (xs ++ ys) ≡ true
unfolding all
all_join f [] ys e g = g
all_join f (x ∷ xs) ys e g = let s = and_split (f x) (all f xs) e in rw s.0 (all_join f xs ys s.1 g)

module _ (width : ℕ) (s : List ℕ) (t : Trailer) (reach parents bound : List ℕ) (h : Scanned width s t reach parents bound t.nodes)
    (room : t.nodes ≤ width) (bytes : (k : ℕ) → get_or s k 0 < 256) where
  abbrev a : Array
  a = array_of s t

  fit : refusal8 a ≡ clear
  fit = sym (refusal8-by s t) ∙ h.fits

  single : refusal9 a ≡ clear
  unfolding refusal9 fields_to
  single = clear_first t.nodes _ (λ i l. clear-test _ _ (go i l (decided (eqb i 0))))
    where
      go : (i : ℕ) → i < t.nodes → (eqb i 0 ≡ true) ⊎ (eqb i 0 ≡ false) → eqb i 0 || eqb (fields_to a i) 1 ≡ true
      go i l (inl e) = rw e
      go i l (inr e) =
          or_right (eqb i 0) _
          (eq-eqb _ 1 (sym (counted-all children s t width parents h.fields i (omega arith)) ∙ h.once i l (eqb-false i 0 e)))

  -- the rows are right: from a parent's to its child's
  row-right : (i v : ℕ) → i < t.nodes → v < 256 → ((p : ℕ) → p < i → p < t.nodes → marked reach p v ≡ in_reach a v p)
      → (eqb i 0 ≡ true) ⊎ (eqb i 0 ≡ false) → marked reach i v ≡ in_reach a v i
  row-right i v l w above (inl e) = rw (eqb-true i 0 e) (h.root v w ∙ sym (reach-root a fit single v))
  row-right i v l w above (inr e) =
      let p = parent a fit single i l (eqb-false i 0 e) in
      let b = parent-below a p.0 i p.2 in
      let n = node-of s t p.0 b in
      h.linked p.0 i v b (rw n at p.2) (omega arith) (h.once i l (eqb-false i 0 e)) w
      ∙ ap (λ (b : Bool). b || has (binds (node s t p.0)) v) (above p.0 p.1 b)
      ∙ or_comm (in_reach a v p.0) _
      ∙ ap (λ (m : Node). has (binds m) v || in_reach a v p.0) (sym n)
      ∙ sym (reach-child a fit single p.0 i v p.2)

  rows_right : (d i v : ℕ) → i ≤ d → i < t.nodes → v < 256 → marked reach i v ≡ in_reach a v i
  rows_right zero i v k l w = row-right i v l w (λ p q b. absurd (omega arith)) (decided (eqb i 0))
  rows_right (suc d) i v k l w = row-right i v l w (λ p q b. rows_right d p v (omega arith) b w) (decided (eqb i 0))

  in_scope_lem : refusal12 a ≡ clear
  unfolding refusal12
  in_scope_lem =
      clear_first t.nodes _ (λ i l. clear-test _ _ (rw (node-of s t i l) (has_all (λ v. in_reach a v i) (uses (node s t i)) (λ v e. go i v l e))))
    where
      go : (i v : ℕ) → i < t.nodes → has (uses (node s t i)) v ≡ true → in_reach a v i ≡ true
      go i v l e =
          let b = All-has (λ v. v < 256) (uses (node s t i)) v (uses-bytes s t bytes i) e in
          sym (rows_right i i v (omega arith) l b) ∙ h.used i v l e b

  module _ (names : t.names ≤ 256) (counted : every 256 (count_fits bound t.names) ≡ true) where
    count_at : (v : ℕ) → v < 256 → get_or bound v 0 ≡ binders a v
    unfolding binders
    count_at v l = counted-all binds s t 256 bound h.counts v l

    bound-once : refusal11 a ≡ clear
    unfolding refusal11
    bound-once = clear_first t.names _ (λ v l. clear-test _ _ (go v l))
      where
        go : (v : ℕ) → v < t.names → eqb (binders a v) 1 ≡ true
        go v l =
            let f = (and_split (leb t.names v || eqb (get_or bound v 0) 1) _ (every_true 256 (count_fits bound t.names) counted v (omega arith))).0 in
            ap (λ (n : ℕ). eqb n 1) (sym (count_at v (omega arith))) ∙ (rw (lt-leb t.names v l) at f)

    -- a name that a node binds is below N
    bound-below : (j v : ℕ) → j < t.nodes → has (binds (node_at a j)) v ≡ true → ltb v t.names ≡ true
    unfolding binders
    bound-below j v l e =
        let b = All-has (λ v. v < 256) (binds (node s t j)) v (binds-bytes s t bytes j) (rw (node-of s t j l) at e) in
        let once = leb t.names v || eqb (get_or bound v 0) 1 in
        let f = (and_split once (ltb v t.names || eqb (get_or bound v 0) 0) (every_true 256 (count_fits bound t.names) counted v b)).1 in
        let some = sum_one t.nodes (λ k. times (binds (node_at a k)) v) j l in
        let here = has-times (binds (node_at a j)) v e in
        ⊎_elim (λ (q : ltb v t.names ≡ true). q)
        (λ (q : eqb (get_or bound v 0) 0 ≡ true). absurd (omega (arith, eqb-true (get_or bound v 0) 0 q, count_at v b)))
        (or_split (ltb v t.names) (eqb (get_or bound v 0) 0) f)

    -- and so is one that it uses, since some node binds it
    names-below : refusal10 a ≡ clear
    unfolding refusal10 in_reach refusal12
    names-below =
        clear_first t.nodes _ (λ i l. clear-test _ _
        (all_join (λ v. ltb v t.names) (uses (node_at a i)) (binds (node_at a i)) (has_all _ (uses (node_at a i)) (λ v e. used i v l e))
        (has_all _ (binds (node_at a i)) (λ v e. bound-below i v l e))))
      where
        used : (i v : ℕ) → i < t.nodes → has (uses (node_at a i)) v ≡ true → ltb v t.names ≡ true
        used i v l e =
            let r = all-has (λ v. in_reach a v i) (uses (node_at a i)) v (test-clear _ _ (first-clear t.nodes _ in_scope_lem i l)) e in
            let b = reached-bound t.nodes a v i r in
            bound-below b.0 v b.1 b.2

    pub scanned-clear : Clear s t
    unfolding refusal6 refusal7
    scanned-clear = record {
      shapes = h.shapes;
      unused = h.unused;
      children = fit;
      parents = single;
      named = names-below;
      bound = bound-once;
      scoped = in_scope_lem;
    }
