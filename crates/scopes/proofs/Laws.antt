-- What a record has for children, binds and uses.
use Prim.Native.Nat.{ℕ}
use mathlib.Core.Path.{◌≡◌, refl, sym, ap, ◌∙◌}
use mathlib.Core.Bool.{Bool, cond, ◌&&◌, ◌||◌, and_assoc}
use mathlib.Core.List.{List, [], ◌∷◌}
use lib.Dec.{eqb, ltb}
use lib.ListN.{length, get_or}
use Rattle.laws.specs.Search.{any}
use Rattle.laws.specs.Lists.{has}
use Rattle.laws.proofs.Search.{any_same, any-under}
use Rattle.laws.proofs.Lists.{has-take}
use Rattle.model.specs.Tree.{Sort, out, inp, resource, Node, is_agent, receives}
use Rattle.model.specs.Memory.{is_out}
use Rattle.model.specs.Formed.{params, binds, sent, uses}
use Rattle.records.specs.declared.Record.{Record}
use Rattle.records.specs.Record.{args_of, sort_of, node_of}
use Rattle.records.specs.Kinds.{is_new_node, is_receiver}
use Rattle.records.proofs.KindLaws.{by-node}
use Rattle.scopes.specs.Scope.{is_param}

module _ (r : Record) where
  pub binds-of : (v : ℕ) → has (binds (node_of r)) v ≡ (is_new_node (node_of r) && eqb v r.name) || is_param r v
  unfolding binds params has is_new_node is_receiver receives
  binds-of v =
      by-node r (λ n. has (binds n) v ≡ (is_new_node n && eqb v r.name) || (is_receiver n && has (args_of r) v)) refl refl refl refl (go (sort_of r))
    where
      go : (s : Sort) → has (params s (args_of r)) v ≡ receives s && has (args_of r) v
      go out = refl
      go inp = refl
      go resource = refl

  pub uses-of : uses (node_of r) ≡ cond (is_agent (node_of r)) (r.name ∷ cond (is_out (node_of r)) (args_of r) []) []
  unfolding uses sent is_agent is_out
  uses-of = by-node r (λ n. uses n ≡ cond (is_agent n) (r.name ∷ cond (is_out n) (args_of r) []) []) refl refl refl refl (go (sort_of r))
    where
      go : (s : Sort) → ◌≡◌ {A = List ℕ} (r.name ∷ sent s (args_of r)) (r.name ∷ cond (is_out (Node.agent s r.name (args_of r) r.left)) (args_of r) [])
      go out = refl
      go inp = refl
      go resource = refl

  -- the arguments where b is true, as a loop over the argument bytes finds them
  abbrev pub arg_at : Bool → ℕ → ℕ → Bool
  arg_at b v k = (b && ltb k r.arity) && eqb v (get_or r.args k 0)

  pub args-found : (b : Bool) (v : ℕ) → length r.args ≡ 8 → any 8 (arg_at b v) ≡ b && has (args_of r) v
  args-found b v l =
      any_same 8 (arg_at b v) (λ k. b && here k) (λ k h. and_assoc b (ltb k r.arity) (eqb v (get_or r.args k 0)))
      ∙ any-under 8 b here
      ∙ ap (λ (c : Bool). b && c) (ap (λ (n : ℕ). any n here) (sym l) ∙ sym (has-take v 0 r.args r.arity))
    where
      here : ℕ → Bool
      here k = ltb k r.arity && eqb v (get_or r.args k 0)
