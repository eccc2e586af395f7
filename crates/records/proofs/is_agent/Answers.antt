use mathlib.Core.Path.{◌≡◌, refl}
use mathlib.Core.Logic.{inl, inr}
use mathlib.Core.Bool.{false}
use Rattle.model.specs.Tree.{is_agent}
use Rattle.records.specs.Record.{node_of}
use Rattle.records.proofs.Laws.{by_each}
use Rattle.records.proofs.is_agent.Goals as goal

pub returns-in-Out : goal.returns-in-Out
unfolding node_of is_agent
returns-in-Out c = elim c.in-Out.is [ inl e ↦ rw e refl | inr f ↦ elim f [ inl e ↦ rw e refl | inr f ↦ elim f [ inl e ↦ rw e refl | inr f ↦ rw f.1 refl ] ] ]

pub returns-in_default : goal.returns-in_default
unfolding is_agent
returns-in_default c =
    by_each c.args.r (λ k n. c.args.r.kind ≡ k → false ≡ is_agent n)
    (λ e. refl) (λ e. refl) (λ e. refl) (λ e. refl) (λ e. absurd (c.in_default.not-Out e)) (λ e. absurd (c.in_default.not-In e)) (λ e. absurd (c.in_default.not-Resource e)) (λ x e. absurd (c.in_default.not-Other x e)) refl
