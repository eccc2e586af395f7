use mathlib.Core.Path.{◌≡◌, refl}
use mathlib.Core.Logic.{inl, inr}
use mathlib.Core.Bool.{false, ◌||◌}
use Rattle.records.specs.Kinds.{is_par, is_choice}
use Rattle.records.specs.Record.{node_of}
use Rattle.records.proofs.Laws.{by_each}
use Rattle.records.proofs.branches.Goals as goal

pub returns-in-Par : goal.returns-in-Par
unfolding node_of is_par is_choice
returns-in-Par c = elim c.in-Par.is [ inl e ↦ rw e refl | inr f ↦ rw f refl ]

pub returns-in_default : goal.returns-in_default
unfolding is_par is_choice
returns-in_default c =
    by_each c.args.r (λ k n. c.args.r.kind ≡ k → false ≡ is_par n || is_choice n)
    (λ e. refl) (λ e. refl) (λ e. absurd (c.in_default.not-Par e)) (λ e. absurd (c.in_default.not-Choice e)) (λ e. refl) (λ e. refl) (λ e. refl) (λ x e. refl) refl
