-- The root of a well-formed array has no free name: a name free in the tree of a node reaches that node (refusal 12), and
-- nothing reaches the root.
use Prim.Native.Nat.{ℕ, zero, suc, ◌+◌, ◌≤◌, ◌<◌}
use native.Mathlib.Omega.{arith}
use mathlib.Core.Path.{◌≡◌, refl, sym, ◌∙◌}
use mathlib.Core.Logic.{⊎_elim}
use mathlib.Core.Bool.{true, false, not, ◌||◌, false≢true}
use mathlib.Core.List.{List, [], ◌∷◌}
use lib.Dec.{eqb}
use borrow.Author.Tests.{not-true}
use Rattle.laws.specs.Lists.{has}
use Rattle.laws.proofs.Search.{and_split, or_split, or_right, test-clear, first-clear}
use Rattle.laws.proofs.Lists.{all-has, has_here, has-later}
use Rattle.model.specs.Tree.{Array, Sort, out, inp, resource, Node, node_at, Proc, grow, tree, proc_at, is_free, free_below}
use Rattle.model.specs.Formed.{WellFormed, children, params, binds, sent, uses, in_reach, refusal12}
use Rattle.model.proofs.Tree.{child-above}
use Rattle.model.proofs.Reach.{IsChild, reach-child, reach-root}

module _ (a : Array) (wf : WellFormed a) where
  -- what a node uses reaches it
  pub use-reach : (i v : ℕ) → i < a.size → has (uses (node_at a i)) v ≡ true → in_reach a v i ≡ true
  unfolding refusal12
  use-reach i v h u = all-has (λ x. in_reach a x i) (uses (node_at a i)) v (test-clear _ _ (first-clear a.size _ wf.scoped i h)) u

  -- a name that reaches a child and is not bound by its parent reaches the parent
  up : (i l v : ℕ) → IsChild a i l → has (binds (node_at a i)) v ≡ false → in_reach a v l ≡ true → in_reach a v i ≡ true
  up i l v c b e = rw b at (sym (reach-child a wf.children wf.parents i l v c) ∙ e)

  module _ (v i : ℕ) (h : i < a.size) (f : ℕ → Proc) (below : (l : ℕ) → IsChild a i l → is_free (f l) v ≡ true → in_reach a v l ≡ true) where
    -- free in the tree of a child, and not bound by node i
    child : (l : ℕ) → IsChild a i l → has (binds (node_at a i)) v ≡ false → is_free (f l) v ≡ true → in_reach a v i ≡ true
    child l c b e = up i l v c b (below l c e)

    either : (l r : ℕ) → IsChild a i l → IsChild a i r → has (binds (node_at a i)) v ≡ false → is_free (f l) v || is_free (f r) v ≡ true → in_reach a v i ≡ true
    either l r cl cr b e =
        ⊎_elim (λ (p : is_free (f l) v ≡ true). child l cl b p) (λ (p : is_free (f r) v ≡ true). child r cr b p) (or_split (is_free (f l) v) (is_free (f r) v) e)

    free-agent : (s : Sort) (x : ℕ) (ys : List ℕ) (l : ℕ) → node_at a i ≡ Node.agent s x ys l
        → free_below s (has ys v) (is_free (f l) v) ≡ true → in_reach a v i ≡ true
    unfolding free_below children uses binds sent params has
    free-agent out x ys l ev e =
        ⊎_elim (λ (k : has ys v ≡ true). use-reach i v h (rw ev (or_right (eqb v x) (has ys v) k)))
        (λ (k : is_free (f l) v ≡ true). child l (rw ev (has_here l [])) (rw ev) k) (or_split (has ys v) (is_free (f l) v) e)
    free-agent inp x ys l ev e =
        let s = and_split (not (has ys v)) (is_free (f l) v) e in child l (rw ev (has_here l [])) (rw ev (not-true (has ys v) s.0)) s.1
    free-agent resource x ys l ev e =
        let s = and_split (not (has ys v)) (is_free (f l) v) e in child l (rw ev (has_here l [])) (rw ev (not-true (has ys v) s.0)) s.1

    free-grow : (u : Node) → node_at a i ≡ u → is_free (grow i f u) v ≡ true → in_reach a v i ≡ true
    unfolding grow is_free children uses binds has
    free-grow Node.stop ev e = absurd (false≢true e)
    free-grow (Node.new o l) ev e =
        let s = and_split (not (eqb v o)) (is_free (f l) v) e in
        child l (rw ev (has_here l [])) (rw (ev, not-true (eqb v o) s.0)) s.1
    free-grow (Node.par l r) ev e = either l r (rw ev (has_here l (r ∷ []))) (rw ev (has-later l (r ∷ []) r (has_here r []))) (rw ev) e
    free-grow (Node.choice l r) ev e = either l r (rw ev (has_here l (r ∷ []))) (rw ev (has-later l (r ∷ []) r (has_here r []))) (rw ev) e
    free-grow (Node.agent s x ys l) ev e =
        ⊎_elim (λ (k : eqb v x ≡ true). use-reach i v h (rw (ev, k)))
        (λ (k : free_below s (has ys v) (is_free (f l) v) ≡ true). free-agent s x ys l ev k) (or_split (eqb v x) (free_below s (has ys v) (is_free (f l) v)) e)

  free-reach : (v d i : ℕ) → i < a.size → a.size ≤ d + i → is_free (tree d a i) v ≡ true → in_reach a v i ≡ true
  unfolding tree
  free-reach v zero i h hd e = absurd (omega arith)
  free-reach v (suc d) i h hd e =
      free-grow v i h (λ l. tree d a l)
      (λ l c p. let b = child-above a wf.children i l c in free-reach v d l b.1 (omega (arith, b.0)) p) (node_at a i) refl e

  pub closed : (v : ℕ) → is_free (proc_at a 0) v ≡ true → ⊥
  unfolding proc_at
  closed v e =
      let r = free-reach v a.size 0 wf.some (omega arith) e in
      false≢true (sym (reach-root a wf.children wf.parents v) ∙ r)
