-- What the tests of a record's fields say of the node that the record stands for, and refusals 8 and 10 by these tests.
use Prim.Native.Nat.{ℕ}
use mathlib.Core.Path.{◌≡◌, refl, sym, ap, ◌∙◌}
use mathlib.Core.Bool.{Bool, true, not, ◌&&◌, ◌||◌, and-true}
use mathlib.Core.List.{List, ◌++◌, append-nil}
use lib.Dec.{ltb}
use lib.ListN.{length}
use Rattle.laws.specs.Search.{first, every}
use Rattle.laws.specs.Lists.{all}
use Rattle.laws.proofs.Search.{first-same}
use Rattle.laws.proofs.Lists.{all_take}
use Rattle.model.specs.Tree.{Sort, out, inp, resource, Node, is_agent}
use Rattle.model.specs.Formed.{refuse, child_fits, children, params, binds, sent, uses, refusal8, refusal10}
use Rattle.records.specs.declared.Record.{Record}
use Rattle.records.specs.declared.Trailer.{Trailer}
use Rattle.records.specs.Record.{sort_of, args_of, node_of, record_of, array_of}
use Rattle.records.specs.Kinds.{is_stop, is_new_node, is_par, is_choice}
use Rattle.records.proofs.Laws.{node-of}
use Rattle.records.proofs.KindLaws.{by-node}
use Rattle.fields.specs.Fields.{arg_below, children_fit, names_fit}

-- ---- one record

-- refusal 8: the tests of the children that the kind says are used
pub children-fit :
    (m i : ℕ) (r : Record)
    → (is_stop (node_of r) || child_fits m i r.left) && (not (is_par (node_of r) || is_choice (node_of r)) || child_fits m i r.right) ≡ children_fit m i r
unfolding children_fit all children is_stop is_par is_choice
children-fit m i r =
    by-node r (λ n. (is_stop n || child_fits m i r.left) && (not (is_par n || is_choice n) || child_fits m i r.right) ≡ all (child_fits m i) (children n))
    refl refl two two refl
  where
    two : child_fits m i r.left && child_fits m i r.right ≡ child_fits m i r.left && (child_fits m i r.right && true)
    two = rw and-true

-- an agent's arguments are sent or bound
sent-params : (s : Sort) (ys : List ℕ) → sent s ys ++ params s ys ≡ ys
unfolding sent params
sent-params out ys = append-nil ys
sent-params inp ys = refl
sent-params resource ys = refl

-- refusal 10: the tests of the names that the kind and the arity say are used or bound
pub names-fit :
    (n : ℕ) (r : Record) → length r.args ≡ 8
    → (not (is_new_node (node_of r)) || ltb r.name n) && (not (is_agent (node_of r)) || (ltb r.name n && every 8 (arg_below n r))) ≡ names_fit n r
unfolding names_fit all uses binds is_new_node is_agent
names-fit n r e =
    by-node r (λ x. (not (is_new_node x) || f r.name) && (not (is_agent x) || (f r.name && every 8 (arg_below n r))) ≡ all f (uses x ++ binds x))
    refl refl refl refl (agents (sort_of r))
  where
    f : ℕ → Bool
    f v = ltb v n

    args : every 8 (arg_below n r) ≡ all f (args_of r)
    args = ap (λ (l : ℕ). every l (arg_below n r)) (sym e) ∙ sym (all_take f 0 r.args r.arity)

    agents : (s : Sort) → f r.name && every 8 (arg_below n r) ≡ f r.name && all f (sent s (args_of r) ++ params s (args_of r))
    agents s = ap (λ (b : Bool). f r.name && b) (args ∙ ap (all f) (sym (sent-params s (args_of r))))

-- ---- the whole array

pub refusal8-by : (s : List ℕ) (t : Trailer) → first t.nodes (λ i. refuse 8 i (children_fit t.nodes i (record_of s t i))) ≡ refusal8 (array_of s t)
unfolding children_fit refusal8
refusal8-by s t =
    first-same t.nodes _ _ (λ i h. ap (λ (x : Node). refuse 8 i (all (child_fits t.nodes i) (children x))) (sym (node-of s t i h)))

pub refusal10-by : (s : List ℕ) (t : Trailer) → first t.nodes (λ i. refuse 10 i (names_fit t.names (record_of s t i))) ≡ refusal10 (array_of s t)
unfolding names_fit refusal10
refusal10-by s t =
    first-same t.nodes _ _ (λ i h. ap (λ (x : Node). refuse 10 i (all (λ v. ltb v t.names) (uses x ++ binds x))) (sym (node-of s t i h)))
