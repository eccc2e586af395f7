-- Each node stands at most once below another (refusals 8 and 9), so what is counted node by node is counted once: a number of each node
-- that is at most its children's and its own share is at most all shares together. Summed over the nodes from i on: the children of
-- these nodes lie above i and are each the child of one field; so what is left of the sums is the number of i and the shares.
-- Loads are such a number (load-bound: their sums stay within 32 bits), and so is how often a node stands in a tree (once).
use Prim.Native.Nat.{ℕ, zero, suc, ◌+◌, ◌*◌, ◌≤◌, ◌<◌, zero-le}
use native.Mathlib.Nat.{not-suc-le-zero, le_of_suc-le-suc, le_trans, le_refl, mul_comm, mul-le-mul_left, zero-mul, one-mul, mul-one, mul_assoc, mul-add}
use native.Mathlib.Nat.{mul-le-mul_right, add-mul, add-zero, zero-add}
use native.Mathlib.Numerals.{lt_of_le_of_ne}
use native.Mathlib.Omega.{arith}
use mathlib.Core.Path.{◌≡◌, refl, sym, ap, ap₂, ◌∙◌}
use mathlib.Core.Logic.{◌⊎◌, inl, inr}
use mathlib.Core.Bool.{Bool, true, false, cond}
use mathlib.Core.List.{List, [], ◌∷◌}
use lib.Dec.{eqb, ltb, leb}
use borrow.Author.Tests.{ne_eqb, eqb-true, eqb-false, leb-true, le-leb, lt-leb, ltb-true, ltb-false}
use Rattle.laws.specs.Search.{clear, sum}
use Rattle.laws.specs.Lists.{one, has, times}
use Rattle.laws.proofs.Search.{decided, sum_same, sum_bound, sum-add, sum_mono, sum-mul, sum_zeros, sum-swap}
use Rattle.laws.proofs.Lists.{times-has, has_here, has-later}
use Rattle.model.specs.Tree.{Array, Node, node_at, Proc, grow, proc_at, load}
use Rattle.model.specs.Nodes.{load_of}
use Rattle.model.specs.Formed.{children, refusal8, fields_to, refusal9}
use Rattle.model.proofs.Tree.{child-above, proc_at-grow}
use Rattle.model.proofs.Nodes.{load_at}
use Rattle.model.proofs.Reach.{fields-one}

-- the sum over a list of numbers
over : List ℕ → (ℕ → ℕ) → ℕ
over [] f = 0
over (c ∷ cs) f = f c + over cs f

-- the term at c, as a sum of all terms that counts c alone: nothing up to c, then that term
not_yet : (n c : ℕ) (f : ℕ → ℕ) → n ≤ c → sum n (λ j. one (eqb j c) * f j) ≡ 0
unfolding sum one
not_yet zero c f h = refl
not_yet (suc n) c f h = rw (ne_eqb n c (λ e. omega arith), not_yet n c f (omega arith), zero-mul)

at_one : (n c : ℕ) (f : ℕ → ℕ) → c < n → sum n (λ j. one (eqb j c) * f j) ≡ f c
unfolding sum one
at_one zero c f h = absurd (not-suc-le-zero h)
at_one (suc n) c f h = go (decided (eqb n c)) (λ k. at_one n c f k)
  where
    go : (eqb n c ≡ true) ⊎ (eqb n c ≡ false) → (c < n → sum n (λ j. one (eqb j c) * f j) ≡ f c)
        → sum n (λ j. one (eqb j c) * f j) + cond (eqb n c) 1 0 * f n ≡ f c
    go (inl e) ih = let q = eqb-true n c e in rw (e, not_yet n c f (omega arith), one-mul, q) (zero-add (f c))
    go (inr e) ih = rw (e, zero-mul, add-zero) (ih (lt_of_le_of_ne (le_of_suc-le-suc h) (λ q. eqb-false n c e (sym q))))

-- a sum over a list of numbers below n, as a sum of all terms that counts how often each stands in the list
over-times : (n : ℕ) (cs : List ℕ) (f : ℕ → ℕ) → ((c : ℕ) → has cs c ≡ true → c < n) → over cs f ≡ sum n (λ j. times cs j * f j)
unfolding over times
over-times n [] f h = sym (sum_same n _ (λ j. 0) (λ j l. zero-mul (f j)) ∙ sum_zeros n)
over-times n (c ∷ cs) f h =
    ap₂ ◌+◌ (sym (at_one n c f (h c (has_here c cs)))) (over-times n cs f (λ d k. h d (has-later c cs d k)))
    ∙ sym (sum-add n (λ j. one (eqb j c) * f j) (λ j. times cs j * f j))
    ∙ sum_same n _ _ (λ j l. sym (add-mul (one (eqb j c)) (times cs j) (f j)))

part : (b : Bool) (x : ℕ) → one b * x ≤ x
unfolding one
part true x = rw one-mul (le_refl x)
part false x = rw zero-mul zero-le

-- ---- a number L of each node, with a share w

module _ (a : Array) (ok : refusal8 a ≡ clear) (parents : refusal9 a ≡ clear) (L w : ℕ → ℕ)
    (own : (r : ℕ) → r < a.size → L r ≤ over (children (node_at a r)) L + w r) (i : ℕ) (h : i < a.size) where
  abbrev kids : ℕ → List ℕ
  kids r = children (node_at a r)

  -- 1 from node i on; 1 above it
  abbrev from : ℕ → ℕ
  from r = one (leb i r)

  abbrev above : ℕ → ℕ
  above r = one (ltb i r)

  -- the fields of nodes from i on that name node c: at most one, and none unless c lies above i
  few-fields : (c : ℕ) → c < a.size → sum a.size (λ r. from r * times (kids r) c) ≤ above c
  unfolding one fields_to
  few-fields c hc = go (decided (ltb i c))
    where
      go : (ltb i c ≡ true) ⊎ (ltb i c ≡ false) → sum a.size (λ r. from r * times (kids r) c) ≤ above c
      go (inl e) =
          let k = ltb-true i c e in
          let u = fields-one a ok parents c hc (λ z. absurd (omega arith)) in
          rw e (le_trans (sum_mono a.size _ (λ r. times (kids r) c) (λ r l. part (leb i r) (times (kids r) c))) (omega arith))
      go (inr e) =
          let k = ltb-false i c e in
          rw e (rw (sum_same a.size _ (λ r. 0) (λ r l. none r l (decided (leb i r))), sum_zeros a.size) zero-le)
        where
          none : (r : ℕ) → r < a.size → (leb i r ≡ true) ⊎ (leb i r ≡ false) → from r * times (kids r) c ≡ 0
          none r l (inr q) = rw (q, zero-mul)
          none r l (inl q) = ap (λ (x : ℕ). from r * x) (zero-times (times (kids r) c) refl) ∙ mul_comm (from r) 0 ∙ zero-mul (from r)
            where
              zero-times : (x : ℕ) → times (kids r) c ≡ x → times (kids r) c ≡ 0
              zero-times zero z = z
              zero-times (suc x) z =
                  let b = child-above a ok r c (times-has (kids r) c (omega arith)) in
                  let y = leb-true i r q in
                  let x = ltb-false i c e in
                  absurd (omega (arith, b.0))

  -- the loads from i on: the load of i, and those above it
  split : sum a.size (λ r. from r * L r) ≡ L i + sum a.size (λ r. above r * L r)
  unfolding one
  split =
      sum_same a.size _ (λ r. one (eqb r i) * L r + above r * L r) (λ r l. ap (λ (x : ℕ). x * L r) (parts r) ∙ add-mul (one (eqb r i)) (above r) (L r))
      ∙ sum-add a.size (λ r. one (eqb r i) * L r) (λ r. above r * L r)
      ∙ ap (λ (x : ℕ). x + sum a.size (λ r. above r * L r)) (at_one a.size i L h)
    where
      parts : (r : ℕ) → from r ≡ one (eqb r i) + above r
      parts r = go (decided (ltb i r)) (decided (eqb r i))
        where
          go : (ltb i r ≡ true) ⊎ (ltb i r ≡ false) → (eqb r i ≡ true) ⊎ (eqb r i ≡ false) → from r ≡ one (eqb r i) + above r
          go (inl p) (inl q) = let x = ltb-true i r p in let y = eqb-true r i q in absurd (omega arith)
          go (inl p) (inr q) = let x = ltb-true i r p in rw (le-leb i r (omega arith), p, q)
          go (inr p) (inl q) = let y = eqb-true r i q in rw (le-leb i r (omega arith), p, q)
          go (inr p) (inr q) =
              let x = ltb-false i r p in
              let y = eqb-false r i q in
              rw (lt-leb i r (lt_of_le_of_ne x y), p, q)

  -- the loads of all children of nodes from i on are at most the loads above i
  children-loads : sum a.size (λ r. from r * over (kids r) L) ≤ sum a.size (λ c. above c * L c)
  children-loads =
      let n = a.size in
      let e₁ : sum n (λ r. from r * over (kids r) L) ≡ sum n (λ r. sum n (λ c. from r * times (kids r) c * L c)) =
      sum_same n _ _ (λ r l. ap (λ (x : ℕ). from r * x) (over-times n (kids r) L (λ c k. (child-above a ok r c k).1)) ∙ into n (from r) (times (kids r))) in
      let e₂ : sum n (λ r. sum n (λ c. from r * times (kids r) c * L c)) ≡ sum n (λ c. sum n (λ r. from r * times (kids r) c) * L c) =
      sum-swap n n (λ r c. from r * times (kids r) c * L c) ∙ sum_same n _ _ (λ c l. sum-mul n (λ r. from r * times (kids r) c) (L c)) in
      rw (e₁, e₂) (sum_mono n _ _ (λ c l. mul-le-mul_right (L c) (few-fields c l)))
    where
      into : (n x : ℕ) (g : ℕ → ℕ) → x * sum n (λ c. g c * L c) ≡ sum n (λ c. x * g c * L c)
      into n x g =
          mul_comm x _ ∙ sym (sum-mul n (λ c. g c * L c) x) ∙ sum_same n _ _ (λ c l. mul_comm (g c * L c) x ∙ sym (mul_assoc x (g c) (L c)))

  shares : L i ≤ sum a.size (λ r. from r * w r)
  shares =
      let n = a.size in
      let step : sum n (λ r. from r * L r) ≤ sum n (λ r. from r * over (kids r) L + from r * w r) =
      sum_mono n _ _ (λ r l. le_trans (mul-le-mul_left (from r) (own r l)) (rw (mul-add (from r)) (le_refl _))) in
      let e = sum-add n (λ r. from r * over (kids r) L) (λ r. from r * w r) in
      let k = children-loads in
      let s = split in
      omega arith

  -- all shares together
  all-shares : L i ≤ sum a.size w
  all-shares = le_trans shares (sum_mono a.size _ w (λ r l. part (leb i r) (w r)))

-- ---- loads

-- a load is at most the children's and the node's own weight
load-over : (w : ℕ → ℕ) (i : ℕ) (f : ℕ → ℕ) (v : Node) → load_of w i f v ≤ over (children v) f + w i
unfolding load_of children over
load-over w i f Node.stop = zero-le
load-over w i f (Node.new n l) = omega arith
load-over w i f (Node.par l r) = omega arith
load-over w i f (Node.choice l r) = omega arith
load-over w i f (Node.agent s x ys l) = omega arith

module _ (a : Array) (ok : refusal8 a ≡ clear) (parents : refusal9 a ≡ clear) where
  pub load-bound : (w : ℕ → ℕ) (i : ℕ) → i < a.size → (W : ℕ) → ((r : ℕ) → w r ≤ W) → load w (proc_at a i) ≤ W * a.size
  load-bound w i h W b =
      let L : ℕ → ℕ = λ r. load w (proc_at a r) in
      le_trans (all-shares a ok parents L w (λ r l. rw (load_at a ok r l w) (load-over w r L (node_at a r))) i h) (sum_bound a.size w W b)

-- ---- how often agent or choice k stands in a tree

unfoldable pub occurs : ℕ → Proc → ℕ
occurs k Proc.stop = 0
occurs k (Proc.new n p) = occurs k p
occurs k (Proc.par p q) = occurs k p + occurs k q
occurs k (Proc.choice i p q) = one (eqb i k) + (occurs k p + occurs k q)
occurs k (Proc.agent i s x ys p) = one (eqb i k) + occurs k p

occurs-over : (k i : ℕ) (f : ℕ → Proc) (v : Node) → occurs k (grow i f v) ≤ over (children v) (λ l. occurs k (f l)) + one (eqb i k)
unfolding occurs grow children over
occurs-over k i f Node.stop = zero-le
occurs-over k i f (Node.new n l) = omega arith
occurs-over k i f (Node.par l r) = omega arith
occurs-over k i f (Node.choice l r) = omega arith
occurs-over k i f (Node.agent s x ys l) = omega arith

-- Each node stands once in a tree: what a thread may still unfold to under its marker has each agent at most once (02, x).
pub once : (a : Array) → refusal8 a ≡ clear → refusal9 a ≡ clear → (k i : ℕ) → i < a.size → occurs k (proc_at a i) ≤ 1
once a ok parents k i h =
    le_trans (all-shares a ok parents (λ r. occurs k (proc_at a r)) (λ r. one (eqb r k) * 1) own i h) (ones (decided (ltb k a.size)))
  where
    own : (r : ℕ) → r < a.size → occurs k (proc_at a r) ≤ over (children (node_at a r)) (λ l. occurs k (proc_at a l)) + one (eqb r k) * 1
    own r l = rw (proc_at-grow a ok r l, mul-one) (occurs-over k r (λ c. proc_at a c) (node_at a r))

    ones : (ltb k a.size ≡ true) ⊎ (ltb k a.size ≡ false) → sum a.size (λ r. one (eqb r k) * 1) ≤ 1
    ones (inl e) = rw (at_one a.size k (λ r. 1) (ltb-true _ _ e)) (le_refl 1)
    ones (inr e) = rw (not_yet a.size k (λ r. 1) (ltb-false _ _ e)) zero-le
