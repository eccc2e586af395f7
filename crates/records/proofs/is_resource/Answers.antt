use mathlib.Core.Path.{◌≡◌, refl}
use mathlib.Core.Logic.{inl, inr}
use mathlib.Core.Bool.{false}
use Rattle.model.specs.Memory.{is_resource}
use Rattle.records.specs.Record.{node_of}
use Rattle.records.proofs.Laws.{by_each}
use Rattle.records.proofs.is_resource.Goals as goal

pub returns-in-Resource : goal.returns-in-Resource
unfolding node_of is_resource
returns-in-Resource c = elim c.in-Resource.is [ inl e ↦ rw e refl | inr f ↦ rw f.1 refl ]

pub returns-in_default : goal.returns-in_default
unfolding is_resource
returns-in_default c =
    by_each c.args.r (λ k n. c.args.r.kind ≡ k → false ≡ is_resource n)
    (λ e. refl) (λ e. refl) (λ e. refl) (λ e. refl) (λ e. refl) (λ e. refl) (λ e. absurd (c.in_default.not-Resource e)) (λ x e. absurd (c.in_default.not-Other x e)) refl
