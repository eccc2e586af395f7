-- The table's rows after passes from parent to child, the table while it is filled, and the test of refusal 12 by its marks.
use Prim.Native.Nat.{ℕ, zero, suc, ◌+◌, ◌*◌, ◌/◌, ◌%◌, ◌≤◌, ◌<◌}
use native.Mathlib.Nat.{eq-or-lt_of_le, not-suc-le-zero, le_of_suc-le-suc, zero-add}
use native.Mathlib.Numerals.{add-one}
use native.Mathlib.Omega.{arith}
use mathlib.Core.Path.{◌≡◌, refl, sym, ap, ap₂, ◌∙◌}
use mathlib.Core.Logic.{◌⊎◌, inl, inr, ◌≢◌, ⊎_elim}
use mathlib.Core.Bool.{Bool, true, false, cond, not, ◌&&◌, ◌||◌, or_comm, false≢true}
use mathlib.Core.List.{List, [], ◌∷◌}
use lib.Bits.{bit_or}
use lib.Dec.{eqb}
use lib.ListN.{length, get_or, drop, set, replicate, length-set}
use lib.Seq.{get_or-set_same, get_or-set_other}
use borrow.Author.Tests.{eqb-true, eqb-false, ne_eqb, not-true}
use Rattle.laws.specs.Search.{clear}
use Rattle.laws.specs.Lists.{All, all, has}
use Rattle.laws.specs.Bits.{bit}
use Rattle.laws.proofs.Search.{decided}
use Rattle.laws.proofs.Lists.{All-drop, All-take, slice_index-All, all_same}
use Rattle.laws.proofs.Bits.{bit-or}
use Rattle.model.specs.Tree.{Array, Sort, out, inp, resource, node_at, is_agent}
use Rattle.model.specs.Memory.{is_out}
use Rattle.model.specs.Formed.{children, params, binds, uses, in_reach, refusal8, refusal9}
use Rattle.records.specs.declared.Record.{Record}
use Rattle.records.specs.declared.Trailer.{Trailer}
use Rattle.records.specs.Record.{args_of, sort_of, record_of, node_of, array_of}
use Rattle.records.specs.Kinds.{is_stop, is_par, is_choice}
use Rattle.records.proofs.Laws.{node-read}
use Rattle.records.proofs.KindLaws.{by-node, children-of, left-child, right_child}
use Rattle.model.proofs.Tree.{child-above}
use Rattle.model.proofs.Reach.{parent, reach-root, reach-child}
use Rattle.marks.specs.Marks.{word_at, HasRow, marked}
use Rattle.marks.proofs.Laws.{marked-none}
use Rattle.scopes.specs.Scope.{passed, pass_if, HandedDown}
use Rattle.scopes.proofs.Laws.{uses-of}

-- ---- rows passed down

module _ (reach : List ℕ) (from to : ℕ) (bound : List ℕ) where
  pub passed-step : (n : ℕ) → passed reach from to bound (n + 1)
      ≡ set (passed reach from to bound n) (word_at to n) (bit_or (get_or (passed reach from to bound n) (word_at from n) 0) (get_or bound n 0))
  unfolding passed
  passed-step n = rw (add-one, passed)

  passed_length : (n : ℕ) → length (passed reach from to bound n) ≡ length reach
  unfolding passed
  passed_length zero = refl
  passed_length (suc n) = length-set (passed reach from to bound n) _ _ ∙ passed_length n

  -- words that are not written
  passed-else : (n k : ℕ) → ((w : ℕ) → w < n → k ≢ word_at to w) → get_or (passed reach from to bound n) k 0 ≡ get_or reach k 0
  unfolding passed
  passed-else zero k ne = refl
  passed-else (suc n) k ne =
      get_or-set_other (passed reach from to bound n) _ k _ 0 (ne n (omega arith)) ∙ passed-else n k (λ w l. ne w (omega arith))

  module _ (above : from < to) (fits : HasRow reach to) where
    -- words that are written
    passed-at : (n w : ℕ) → n ≤ 4 → w < n → get_or (passed reach from to bound n) (word_at to w) 0 ≡ bit_or (get_or reach (word_at from w) 0) (get_or bound w 0)
    unfolding passed
    passed-at zero w h l = absurd (not-suc-le-zero l)
    passed-at (suc n) w h l =
        ⊎_elim
        (λ (q : w ≡ n).
        rw q
        (get_or-set_same (passed reach from to bound n) (word_at to n) _ 0 (rw passed_length (omega arith))
        ∙ ap (λ (x : ℕ). bit_or x (get_or bound n 0)) (passed-else n (word_at from n) (λ m g e. absurd (omega arith)))))
        (λ (k : w < n).
        get_or-set_other (passed reach from to bound n) (word_at to n) (word_at to w) _ 0 (λ e. absurd (omega arith)) ∙ passed-at n w (omega arith) k)
        (eq-or-lt_of_le (le_of_suc-le-suc l))

    marked-passed : (i v : ℕ) → v < 256
        → marked (passed reach from to bound 4) i v ≡ cond (eqb i to) (marked reach from v || marked bound 0 v) (marked reach i v)
    unfolding marked
    marked-passed i v h = go (decided (eqb i to))
      where
        go : (eqb i to ≡ true) ⊎ (eqb i to ≡ false)
            → marked (passed reach from to bound 4) i v ≡ cond (eqb i to) (marked reach from v || marked bound 0 v) (marked reach i v)
        go (inl e) =
            rw (e, eqb-true i to e, zero-add)
            (ap (λ (x : ℕ). bit x (v % 64)) (passed-at 4 (v / 64) (omega arith) (omega arith))
            ∙ bit-or (get_or reach (word_at from (v / 64)) 0) (get_or bound (v / 64) 0) (v % 64))
        go (inr e) = rw e (ap (λ (x : ℕ). bit x (v % 64)) (passed-else 4 (word_at i (v / 64)) (λ w l q. eqb-false i to e (omega arith))))

pass_if-length : (reach : List ℕ) (on : Bool) (from to : ℕ) (bound : List ℕ) → length (pass_if reach on from to bound) ≡ length reach
unfolding pass_if
pass_if-length reach true from to bound = passed_length reach from to bound 4
pass_if-length reach false from to bound = refl

marked-pass_if : (reach : List ℕ) (on : Bool) (from to : ℕ) (bound : List ℕ)
    → (on ≡ true → (from < to) × HasRow reach to) → (i v : ℕ) → v < 256
    → marked (pass_if reach on from to bound) i v ≡ cond (on && eqb i to) (marked reach from v || marked bound 0 v) (marked reach i v)
unfolding pass_if
marked-pass_if reach true from to bound fits i v h = marked-passed reach from to bound (fits refl).0 (fits refl).1 i v h
marked-pass_if reach false from to bound fits i v h = refl

-- two passes from one row to others
marked-twice : (reach : List ℕ) (p q : Bool) (j l r : ℕ) (bound : List ℕ)
    → (p ≡ true → (j < l) × HasRow reach l) → (q ≡ true → (j < r) × HasRow reach r) → (i v : ℕ) → v < 256
    → marked (pass_if (pass_if reach p j l bound) q j r bound) i v
    ≡ cond ((p && eqb i l) || (q && eqb i r)) (marked reach j v || marked bound 0 v) (marked reach i v)
marked-twice reach p q j l r bound fl fr i v h =
    marked-pass_if once q j r bound (λ e. let f = fr e in (f.0, rw (pass_if-length reach p j l bound) f.1)) i v h
    ∙ ap (λ (b : Bool). cond (q && eqb i r) (b || marked bound 0 v) (marked once i v))
    (marked-pass_if reach p j l bound fl j v h ∙ ap (λ (b : Bool). cond b new (marked reach j v)) (own p fl))
    ∙ ap (cond (q && eqb i r) new) (marked-pass_if reach p j l bound fl i v h)
    ∙ merge (p && eqb i l) (q && eqb i r)
  where
    once : List ℕ
    once = pass_if reach p j l bound

    new : Bool
    new = marked reach j v || marked bound 0 v

    -- the first pass leaves row j
    own : (b : Bool) → (b ≡ true → (j < l) × HasRow reach l) → b && eqb j l ≡ false
    own true f = let g = (f refl).0 in ne_eqb j l (λ e. absurd (omega arith))
    own false f = refl

    merge : (b c : Bool) → cond c new (cond b new (marked reach i v)) ≡ cond (b || c) new (marked reach i v)
    merge true true = refl
    merge true false = refl
    merge false c = refl

module _ (reach : List ℕ) (j : ℕ) (r : Record) (fits : (c : ℕ) → has (children (node_of r)) c ≡ true → (j < c) × HasRow reach c) where
  pub left-fits : not (is_stop (node_of r)) ≡ true → (j < r.left) × HasRow reach r.left
  left-fits e = fits r.left (left-child r (not-true _ e))

  pub right-fits : is_par (node_of r) || is_choice (node_of r) ≡ true → (j < r.right) × HasRow reach r.right
  right-fits e = fits r.right (right_child r e)

  -- the two children that there may be
  pub handed-down : (bound : List ℕ) → ((v : ℕ) → v < 256 → marked bound 0 v ≡ has (binds (node_of r)) v)
      → let first = pass_if reach (not (is_stop (node_of r))) j r.left bound in
      HandedDown reach (pass_if first (is_par (node_of r) || is_choice (node_of r)) j r.right bound) j (node_of r)
  handed-down bound b = record {
    rows = λ i v h.
        marked-twice reach (not (is_stop (node_of r))) (is_par (node_of r) || is_choice (node_of r)) j r.left r.right bound left-fits right-fits i v h
        ∙ ap₂ (λ (c m : Bool). cond c (marked reach j v || m) (marked reach i v)) (sym (children-of r i)) (b v h);
  }

-- ---- the table while it is filled

-- the row of every node whose parent, where it has one, is below j
abbrev pub Filled : Array → List ℕ → ℕ → Type 0
Filled a reach j =
    (i v : ℕ) → i < a.size → v < 256 → ((p : ℕ) → has (children (node_at a p)) i ≡ true → p < j) → marked reach i v ≡ in_reach a v i

module _ (a : Array) (fit : refusal8 a ≡ clear) (once : refusal9 a ≡ clear) where
  pub filled-start : (n : ℕ) → Filled a (replicate n 0) 0
  filled-start n i v h k above = marked-none n i v ∙ go (decided (eqb i 0))
    where
      go : (eqb i 0 ≡ true) ⊎ (eqb i 0 ≡ false) → false ≡ in_reach a v i
      go (inl e) = rw (eqb-true i 0 e) (sym (reach-root a fit once v))
      go (inr e) = let p = parent a fit once i h (eqb-false i 0 e) in absurd (not-suc-le-zero (above p.0 p.2))

  pub filled-step : (before after : List ℕ) (j : ℕ) → j < a.size → HandedDown before after j (node_at a j) → Filled a before j → Filled a after (j + 1)
  filled-step before after j hj down filled i v h k above = down.rows i v k ∙ go (decided (has (children (node_at a j)) i))
    where
      go : (has (children (node_at a j)) i ≡ true) ⊎ (has (children (node_at a j)) i ≡ false)
          → cond (has (children (node_at a j)) i) (marked before j v || has (binds (node_at a j)) v) (marked before i v) ≡ in_reach a v i
      go (inl e) =
          rw e
          (ap (λ (b : Bool). b || has (binds (node_at a j)) v) (filled j v hj k (λ p q. (child-above a fit p j q).0))
          ∙ or_comm (in_reach a v j) (has (binds (node_at a j)) v) ∙ sym (reach-child a fit once j i v e))
      go (inr e) = rw e (filled i v h k (λ p q. earlier p q))
        where
          earlier : (p : ℕ) → has (children (node_at a p)) i ≡ true → p < j
          earlier p q =
              ⊎_elim (λ (s : p ≡ j). absurd (false≢true (sym e ∙ (rw s at q)))) (λ (s : p < j). s) (eq-or-lt_of_le (omega (arith, above p q)))

  pub filled-all : (reach : List ℕ) (j : ℕ) → a.size ≤ j → Filled a reach j → (i v : ℕ) → i < a.size → v < 256 → marked reach i v ≡ in_reach a v i
  filled-all reach j l filled i v h k = filled i v h k (λ p q. let f = child-above a fit p i q in omega arith)

-- ---- the test of refusal 12 by the table

module _ (s : List ℕ) (t : Trailer) (bytes : (k : ℕ) → get_or s k 0 < 256) where
  args-bytes : (i : ℕ) → All (λ v. v < 256) (args_of (record_of s t i))
  args-bytes i =
      let rest = All-drop (λ v. v < 256) (t.start + 16 * i + 8) s (slice_index-All (λ v. v < 256) s 0 bytes) in
      All-take (λ v. v < 256) (record_of s t i).arity (record_of s t i).args (All-take (λ v. v < 256) 8 (drop (t.start + 16 * i + 8) s) rest)

  -- names are bytes
  pub binds-bytes : (i : ℕ) → All (λ v. v < 256) (binds (node_of (record_of s t i)))
  unfolding binds params
  binds-bytes i = by-node (record_of s t i) (λ n. All (λ v. v < 256) (binds n)) tt (bytes (t.start + 16 * i + 6), tt) tt tt (go (sort_of (record_of s t i)))
    where
      go : (o : Sort) → All (λ v. v < 256) (params o (args_of (record_of s t i)))
      go out = tt
      go inp = args-bytes i
      go resource = args-bytes i

  pub uses-bytes : (i : ℕ) → All (λ v. v < 256) (uses (node_of (record_of s t i)))
  uses-bytes i = rw (uses-of (record_of s t i)) (go (is_agent (node_of (record_of s t i))) (is_out (node_of (record_of s t i))))
    where
      go : (a b : Bool) → All (λ v. v < 256) (cond a ((record_of s t i).name ∷ cond b (args_of (record_of s t i)) []) [])
      go true true = (bytes (t.start + 16 * i + 6), args-bytes i)
      go true false = (bytes (t.start + 16 * i + 6), tt)
      go false b = tt

  -- where the table's rows are right, its marks answer for node i, whose record is r
  pub uses-reached : (reach : List ℕ) → ((i v : ℕ) → i < t.nodes → v < 256 → marked reach i v ≡ in_reach (array_of s t) v i)
      → (i : ℕ) (r : Record) → i < t.nodes → r ≡ record_of s t i
      → all (marked reach i) (uses (node_of r)) ≡ all (λ v. in_reach (array_of s t) v i) (uses (node_at (array_of s t) i))
  uses-reached reach right i r h e =
      rw (node-read s t i r h e, e)
      (all_same (λ v. v < 256) (marked reach i) (λ v. in_reach (array_of s t) v i) (uses (node_of (record_of s t i))) (uses-bytes i) (λ v k. right i v h k))
