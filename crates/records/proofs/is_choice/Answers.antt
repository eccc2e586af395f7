use mathlib.Core.Path.{◌≡◌, refl}
use mathlib.Core.Bool.{false}
use Rattle.records.specs.Kinds.{is_choice}
use Rattle.records.specs.Record.{node_of}
use Rattle.records.proofs.Laws.{by_each}
use Rattle.records.proofs.is_choice.Goals as goal

pub returns-in-Choice : goal.returns-in-Choice
unfolding node_of is_choice
returns-in-Choice c = rw c.in-Choice.is refl

pub returns-in_default : goal.returns-in_default
unfolding is_choice
returns-in_default c =
    by_each c.args.r (λ k n. c.args.r.kind ≡ k → false ≡ is_choice n)
    (λ e. refl) (λ e. refl) (λ e. refl) (λ e. absurd (c.in_default.not-Choice e)) (λ e. refl) (λ e. refl) (λ e. refl) (λ x e. refl) refl
