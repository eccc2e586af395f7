use mathlib.Core.Path.{◌≡◌, refl}
use mathlib.Core.Logic.{inl, inr}
use mathlib.Core.Bool.{false}
use Rattle.model.specs.Tree.{receives}
use Rattle.records.specs.Record.{node_of}
use Rattle.records.specs.Kinds.{is_receiver}
use Rattle.records.proofs.Laws.{by_each}
use Rattle.records.proofs.receives.Goals as goal

pub returns-in-In : goal.returns-in-In
unfolding node_of is_receiver receives
returns-in-In c = elim c.in-In.is [ inl e ↦ rw e refl | inr f ↦ elim f [ inl e ↦ rw e refl | inr f ↦ rw f.1 refl ] ]

pub returns-in_default : goal.returns-in_default
unfolding is_receiver receives
returns-in_default c =
    by_each c.args.r (λ k n. c.args.r.kind ≡ k → false ≡ is_receiver n)
    (λ e. refl) (λ e. refl) (λ e. refl) (λ e. refl) (λ e. refl) (λ e. absurd (c.in_default.not-In e)) (λ e. absurd (c.in_default.not-Resource e)) (λ x e. absurd (c.in_default.not-Other x e)) refl
