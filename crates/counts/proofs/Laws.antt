-- How tables grow, and what a record adds to them.
use Prim.Native.Nat.{ℕ, zero, suc, ◌+◌, ◌*◌, ◌≤◌, ◌<◌, zero-le}
use native.Mathlib.Nat.{add-zero}
use native.Mathlib.Omega.{arith}
use mathlib.Core.Path.{◌≡◌, refl, sym, ap, ◌∙◌}
use mathlib.Core.Logic.{⊎_elim}
use mathlib.Core.Bool.{Bool, true, false, cond, not, ◌&&◌, ◌||◌}
use mathlib.Core.List.{List, []}
use lib.Dec.{eqb, ltb, eqb-suc-zero}
use lib.ListN.{length, get_or, set, take, drop, replicate, length-take, length-replicate, get_or-replicate, get_or-eq_default}
use lib.Seq.{get_or-set_same, get_or-set_other, get_or-take, length-take-le}
use borrow.Author.Tests.{eqb-true, eqb-false, ltb-true, ltb-false, ne_eqb, le-ltb}
use Rattle.laws.specs.Search.{Found, first, sum}
use Rattle.laws.specs.Lists.{one, times}
use Rattle.laws.proofs.Search.{decided, sum-zero, sum_step, sum_bound, sum_same, first-same}
use Rattle.laws.proofs.Lists.{one-le, times-le, times-take}
use Rattle.model.specs.Tree.{Sort, out, inp, resource, Node, node_at, receives}
use Rattle.model.specs.Formed.{children, params, binds}
use Rattle.records.specs.declared.Record.{Record}
use Rattle.records.specs.declared.Trailer.{Trailer}
use Rattle.records.specs.Record.{record_at, record_of, args_of, sort_of, node_of, array_of}
use Rattle.records.proofs.Laws.{node-of}
use Rattle.records.proofs.KindLaws.{by-node}
use Rattle.records.specs.Kinds.{is_stop, is_new_node, is_par, is_choice, is_receiver}
use Rattle.counts.specs.Counts.{Grown, Below, params_of}

-- general
pub below_one : (k : ℕ) → ltb k 1 ≡ eqb k 0
below_one zero = refl
below_one (suc k) = le-ltb (suc k) 1 (omega arith) ∙ sym (eqb-suc-zero k)

-- a search through the first n entries of a table
pub front_search : {A : Type 0} (table part : List ℕ) (n : ℕ) (f : ℕ → ℕ → Found A) → part ≡ take n table → n ≤ length table
    → first (length part) (λ k. f k (get_or part k 0)) ≡ first n (λ k. f k (get_or table k 0))
front_search table part n f e h = rw (e, length-take-le n table h) (first-same n _ _ (λ k l. ap (f k) (get_or-take n table k 0 l)))

-- ---- tables

-- one entry counted up; an entry past the end is none
pub grown-set : (t : List ℕ) (at : ℕ) → Grown t (set t at (get_or t at 0 + 1)) (λ v. one (eqb v at))
unfolding one
grown-set t at v l =
    ⊎_elim (λ (e : eqb v at ≡ true). rw (e, ← eqb-true v at e, one) (get_or-set_same t v _ 0 l))
    (λ (e : eqb v at ≡ false). rw (e, one, add-zero) (get_or-set_other t at v _ 0 (eqb-false v at e))) (decided (eqb v at))

pub grown-past : (t : List ℕ) (at : ℕ) → length t ≤ at → Grown t t (λ v. one (eqb v at))
unfolding one
grown-past t at h v l = rw (ne_eqb v at (λ e. omega arith), one) (sym (add-zero _))

module _ (t u : List ℕ) (same : length u ≡ length t) (f : ℕ → ℕ) (p : Grown t u f) where
  pub grown-then : (w : List ℕ) (g : ℕ → ℕ) → Grown u w g → Grown t w (λ v. f v + g v)
  grown-then w g q v l = let k : v < length u = rw same l in omega (arith, p v l, q v k)

  -- an entry past the end reads 0
  pub grown-below : (b c d : ℕ) → Below t b → ((v : ℕ) → f v ≤ c) → b + c ≤ d → Below u d
  grown-below b c d h m le v =
      ⊎_elim (λ (e : ltb v (length u) ≡ true).
      let k : v < length t = omega (arith, ltb-true v (length u) e) in
      let z : get_or u v 0 < d = omega (arith, p v k, h v, m v) in
      z)
      (λ (e : ltb v (length u) ≡ false). rw (get_or-eq_default u 0 (ltb-false v (length u) e)) (omega (arith, h v))) (decided (ltb v (length u)))

-- table u is table t with f 0, .. and f (n - 1) added
abbrev pub Counted : List ℕ → List ℕ → (ℕ → ℕ → ℕ) → ℕ → Type 0
Counted t u f n = (length u ≡ length t) × Grown t u (λ v. sum n (λ k. f k v))

pub counted_none : (t : List ℕ) (f : ℕ → ℕ → ℕ) → Counted t t f 0
counted_none t f = (refl, λ v l. omega (arith, sum-zero (λ k. f k v)))

module _ (t u : List ℕ) (f : ℕ → ℕ → ℕ) (n : ℕ) (h : Counted t u f n) where
  pub counted-more : (w : List ℕ) → length w ≡ length u → Grown u w (f n) → Counted t w f (n + 1)
  counted-more w e q = (e ∙ h.0, λ v l. omega (arith, grown-then t u h.0 _ h.1 w (f n) q v l, sum_step (λ k. f k v) n))

  pub counted-below : (b c d : ℕ) → Below t b → ((k v : ℕ) → f k v ≤ c) → b + c * n ≤ d → Below u d
  counted-below b c d z m le = grown-below t u h.0 _ h.1 b (c * n) d z (λ v. sum_bound n (λ k. f k v) c (λ k. m k v)) le

pub zeros-below : (n : ℕ) → Below (replicate n 0) 1
zeros-below zero v = omega arith
zeros-below (suc n) zero = omega arith
zeros-below (suc n) (suc v) = zeros-below n v

-- ---- records

module _ (r : Record) where
  pub times-children :
      (v : ℕ)
      → times (children (node_of r)) v
      ≡ one (not (is_stop (node_of r)) && eqb v r.left) + one ((is_par (node_of r) || is_choice (node_of r)) && eqb v r.right)
  unfolding times children one is_stop is_par is_choice
  times-children v =
      by-node r (λ n. times (children n) v ≡ one (not (is_stop n) && eqb v r.left) + one ((is_par n || is_choice n) && eqb v r.right))
      refl refl (omega arith) (omega arith) refl

  pub times-binds : (v : ℕ) → times (binds (node_of r)) v ≡ one (is_new_node (node_of r) && eqb v r.name) + times (params_of r) v
  unfolding times binds params one is_new_node is_receiver receives
  times-binds v =
      by-node r (λ n. times (binds n) v ≡ one (is_new_node n && eqb v r.name) + times (cond (is_receiver n) (args_of r) []) v)
      refl refl refl refl (go (sort_of r))
    where
      go : (s : Sort) → times (params s (args_of r)) v ≡ 0 + times (cond (receives s) (args_of r) []) v
      go out = refl
      go inp = omega arith
      go resource = omega arith

  pub children-le : (v : ℕ) → times (children (node_of r)) v ≤ 2
  children-le v =
      let left = one-le (not (is_stop (node_of r)) && eqb v r.left) in
      let right = one-le ((is_par (node_of r) || is_choice (node_of r)) && eqb v r.right) in
      omega (arith, times-children v)

  pub binds-le : length r.args ≤ 8 → (v : ℕ) → times (binds (node_of r)) v ≤ 9
  unfolding times
  binds-le h v = omega (arith, times-binds v, one-le (is_new_node (node_of r) && eqb v r.name), go (is_receiver (node_of r)))
    where
      go : (b : Bool) → times (cond b (args_of r) []) v ≤ 8
      go true = omega (arith, times-le (args_of r) v, length-take r.arity r.args)
      go false = zero-le

  -- what argument byte k adds to entry v
  abbrev pub param_at : ℕ → ℕ → ℕ
  param_at k v = one ((is_receiver (node_of r) && ltb k r.arity) && eqb v (get_or r.args k 0))

  pub times-params : length r.args ≡ 8 → (v : ℕ) → times (params_of r) v ≡ sum 8 (λ k. param_at k v)
  unfolding times sum one
  times-params h v =
      ⊎_elim (λ (e : is_receiver (node_of r) ≡ true).
      rw e (times-take v 0 r.args r.arity ∙ ap (λ (n : ℕ). sum n (λ k. one (ltb k r.arity && eqb v (get_or r.args k 0)))) h))
      (λ (e : is_receiver (node_of r) ≡ false). rw e) (decided (is_receiver (node_of r)))

-- ---- all records

-- wherever a record is read, it has at most 8 argument bytes
pub few-args : (s : List ℕ) (b : ℕ) → length (record_at s b).args ≤ 8
few-args s b = omega (arith, length-take 8 (drop (b + 8) s))

-- what record k of a file adds to entry v, where g lists what a node names
abbrev pub adds : (Node → List ℕ) → List ℕ → Trailer → ℕ → ℕ → ℕ
adds g s t k v = times (g (node_of (record_of s t k))) v

-- a table of zeros that has counted every record holds the sums over the array's nodes
pub counted-all :
    (g : Node → List ℕ) (s : List ℕ) (t : Trailer) (m : ℕ) (u : List ℕ) → Counted (replicate m 0) u (adds g s t) t.nodes
    → (v : ℕ) → v < m → get_or u v 0 ≡ sum t.nodes (λ j. times (g (node_at (array_of s t) j)) v)
counted-all g s t m u h v l =
    let k : v < length {A = ℕ} (replicate m 0) = rw length-replicate l in
    let same : (j : ℕ) → j < t.nodes → adds g s t j v ≡ times (g (node_at (array_of s t) j)) v =
    λ j q. ap (λ (n : Node). times (g n) v) (sym (node-of s t j q)) in
    omega (arith, h.1 v k, get_or-replicate {A = ℕ} m v 0 0 l, sum_same t.nodes _ _ same)
