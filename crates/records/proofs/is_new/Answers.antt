use mathlib.Core.Path.{◌≡◌, refl}
use mathlib.Core.Bool.{false}
use Rattle.records.specs.Kinds.{is_new_node}
use Rattle.records.specs.Record.{node_of}
use Rattle.records.proofs.Laws.{by_each}
use Rattle.records.proofs.is_new.Goals as goal

pub returns-in-New : goal.returns-in-New
unfolding node_of is_new_node
returns-in-New c = rw c.in-New.is refl

pub returns-in_default : goal.returns-in_default
unfolding is_new_node
returns-in_default c =
    by_each c.args.r (λ k n. c.args.r.kind ≡ k → false ≡ is_new_node n)
    (λ e. refl) (λ e. absurd (c.in_default.not-New e)) (λ e. refl) (λ e. refl) (λ e. refl) (λ e. refl) (λ e. refl) (λ x e. refl) refl
