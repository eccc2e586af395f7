-- Parents and reach. Where refusals 8 and 9 have passed, each node but 0 has one parent, and the names that reach a child are those that
-- reach its parent and those that the parent binds.
use Prim.Native.Nat.{ℕ, zero, suc, ◌≤◌, ◌<◌}
use native.Mathlib.Nat.{not-suc-le-zero}
use native.Mathlib.Omega.{arith}
use mathlib.Core.Path.{◌≡◌}
use mathlib.Core.Logic.{◌⊎◌, inl, inr, ◌≢◌, ⊎_elim}
use mathlib.Core.Bool.{Bool, true, false, ◌&&◌, ◌||◌, false≢true}
use lib.Dec.{eqb}
use borrow.Author.Tests.{eqb-true, eqb-false}
use Rattle.laws.specs.Search.{clear}
use Rattle.laws.specs.Lists.{has, times}
use Rattle.laws.proofs.Search.{and_split, and-join, or_split, or_left, or_right, decided, same_test, test-clear, first-clear, any-true, true-any}
use Rattle.laws.proofs.Search.{sum-two, sum-some}
use Rattle.laws.proofs.Lists.{has-times, times-has}
use Rattle.model.specs.Tree.{Array, node_at}
use Rattle.model.specs.Formed.{children, binds, refusal8, fields_to, refusal9, reaches, in_reach}
use Rattle.model.proofs.Tree.{parent-below, child-above}

-- node c is a child of node j
abbrev pub IsChild : Array → ℕ → ℕ → Type 0
IsChild a j c = has (children (node_at a j)) c ≡ true

-- name v is bound by node j, or by a node above it at most d nodes up
abbrev by : ℕ → Array → ℕ → ℕ → Bool
by d a v j = has (binds (node_at a j)) v || reaches d a v j

-- more nodes up, more names
by-more : (d : ℕ) (a : Array) (v j : ℕ) → (reaches d a v j ≡ true → reaches (suc d) a v j ≡ true) → by d a v j ≡ true → by (suc d) a v j ≡ true
by-more d a v j h e =
    ⊎_elim (λ (b : has (binds (node_at a j)) v ≡ true). or_left _ (reaches (suc d) a v j) b)
    (λ (k : reaches d a v j ≡ true). or_right (has (binds (node_at a j)) v) _ (h k)) (or_split (has (binds (node_at a j)) v) (reaches d a v j) e)

more : (d : ℕ) (a : Array) (v i : ℕ) → reaches d a v i ≡ true → reaches (suc d) a v i ≡ true
unfolding reaches
more zero a v i e = absurd (false≢true e)
more (suc d) a v i e =
    let s = any-true a.size (λ j. has (children (node_at a j)) i && by d a v j) e in
    let c = and_split (has (children (node_at a s.0)) i) (by d a v s.0) s.2 in
    true-any a.size (λ j. has (children (node_at a j)) i && by (suc d) a v j) s.0 s.1
    (and-join c.0 (by-more d a v s.0 (λ k. more d a v s.0 k) c.1))

module _ (a : Array) (ok : refusal8 a ≡ clear) (one : refusal9 a ≡ clear) where
  pub fields-one : (c : ℕ) → c < a.size → c ≢ 0 → fields_to a c ≡ 1
  unfolding refusal9
  fields-one c h n =
      ⊎_elim (λ (z : eqb c 0 ≡ true). absurd (n (eqb-true c 0 z))) (λ (z : eqb (fields_to a c) 1 ≡ true). eqb-true _ 1 z)
      (or_split (eqb c 0) (eqb (fields_to a c) 1) (test-clear _ _ (first-clear a.size _ one c h)))

  pub one_parent : (c i j : ℕ) → IsChild a i c → IsChild a j c → i ≡ j
  unfolding fields_to
  one_parent c i j ci cj = go (decided (eqb i j))
    where
      go : (eqb i j ≡ true) ⊎ (eqb i j ≡ false) → i ≡ j
      go (inl e) = eqb-true i j e
      go (inr e) =
          let b = child-above a ok i c ci in
          let u = fields-one c b.1 (λ z. absurd (omega (arith, b.0))) in
          let t = sum-two a.size (λ k. times (children (node_at a k)) c) i j (eqb-false i j e) (parent-below a i c ci) (parent-below a j c cj) in
          let x = has-times (children (node_at a i)) c ci in
          let y = has-times (children (node_at a j)) c cj in
          absurd (omega arith)

  -- every node but 0 has a parent, below it in number
  pub parent : (c : ℕ) → c < a.size → c ≢ 0 → (j : ℕ) × (j < c) × IsChild a j c
  unfolding fields_to
  parent c h n =
      let u = fields-one c h n in
      let s = sum-some a.size (λ k. times (children (node_at a k)) c) (omega arith) in
      let k = times-has (children (node_at a s.0)) c s.2 in
      (s.0, (child-above a ok s.0 c k).0, k)

  -- what reaches a child comes by its parent
  down : (d j c v : ℕ) → IsChild a j c → reaches (suc d) a v c ≡ true → by d a v j ≡ true
  unfolding reaches
  down d j c v k e =
      let s = any-true a.size (λ i. has (children (node_at a i)) c && by d a v i) e in
      let t = and_split (has (children (node_at a s.0)) c) (by d a v s.0) s.2 in
      let p : s.0 ≡ j = one_parent c s.0 j t.0 k in
      rw p at t.1

  up : (d j c v : ℕ) → IsChild a j c → by d a v j ≡ true → reaches (suc d) a v c ≡ true
  unfolding reaches
  up d j c v k e = true-any a.size (λ i. has (children (node_at a i)) c && by d a v i) j (parent-below a j c k) (and-join k e)

  -- as many nodes up as the node's number are enough: nothing above has a lower number left
  enough : (d i v : ℕ) → i < a.size → reaches (suc d) a v i ≡ true → i ≤ d → reaches d a v i ≡ true
  unfolding reaches
  enough zero i v h e l =
      let s = any-true a.size (λ j. has (children (node_at a j)) i && by 0 a v j) e in
      let t = and_split (has (children (node_at a s.0)) i) (by 0 a v s.0) s.2 in
      absurd (omega (arith, (child-above a ok s.0 i t.0).0))
  enough (suc d) i v h e l =
      let s = any-true a.size (λ j. has (children (node_at a j)) i && by (suc d) a v j) e in
      let t = and_split (has (children (node_at a s.0)) i) (by (suc d) a v s.0) s.2 in
      let b = child-above a ok s.0 i t.0 in
      up d s.0 i v t.0
      (⊎_elim (λ (x : has (binds (node_at a s.0)) v ≡ true). or_left _ (reaches d a v s.0) x)
      (λ (x : reaches (suc d) a v s.0 ≡ true). or_right (has (binds (node_at a s.0)) v) _ (enough d s.0 v s.1 x (omega (arith, b.0))))
      (or_split (has (binds (node_at a s.0)) v) (reaches (suc d) a v s.0) t.1))

  -- the names that reach a child: those that its parent binds, and those that reach its parent
  pub reach-child : (j c v : ℕ) → IsChild a j c → in_reach a v c ≡ has (binds (node_at a j)) v || in_reach a v j
  unfolding in_reach
  reach-child j c v k =
      let b = child-above a ok j c k in
      same_test _ _
      (λ e. down a.size j c v k (more a.size a v c e))
      (λ e. enough a.size c v b.1 (up a.size j c v k e) (omega (arith, b.1)))

  -- nothing reaches the root
  pub reach-root : (v : ℕ) → in_reach a v 0 ≡ false
  unfolding in_reach reaches
  reach-root v =
      ⊎_elim (λ (e : reaches a.size a v 0 ≡ true). absurd (above a.size e)) (λ (e : reaches a.size a v 0 ≡ false). e)
      (decided (reaches a.size a v 0))
    where
      above : (d : ℕ) → reaches d a v 0 ≡ true → ⊥
      above zero e = false≢true e
      above (suc d) e =
          let s = any-true a.size (λ j. has (children (node_at a j)) 0 && by d a v j) e in
          let t = and_split (has (children (node_at a s.0)) 0) (by d a v s.0) s.2 in
          not-suc-le-zero (child-above a ok s.0 0 t.0).0
