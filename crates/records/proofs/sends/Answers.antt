use mathlib.Core.Path.{◌≡◌, refl}
use mathlib.Core.Bool.{false}
use Rattle.model.specs.Memory.{is_out}
use Rattle.records.specs.Record.{node_of}
use Rattle.records.proofs.Laws.{by_each}
use Rattle.records.proofs.sends.Goals as goal

pub returns-in-Out : goal.returns-in-Out
unfolding node_of is_out
returns-in-Out c = rw c.in-Out.is refl

pub returns-in_default : goal.returns-in_default
unfolding is_out
returns-in_default c =
    by_each c.args.r (λ k n. c.args.r.kind ≡ k → false ≡ is_out n)
    (λ e. refl) (λ e. refl) (λ e. refl) (λ e. refl) (λ e. absurd (c.in_default.not-Out e)) (λ e. refl) (λ e. refl) (λ x e. refl) refl
