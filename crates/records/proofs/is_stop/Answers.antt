use mathlib.Core.Path.{◌≡◌, refl}
use mathlib.Core.Bool.{false}
use Rattle.records.specs.Kinds.{is_stop}
use Rattle.records.specs.Record.{node_of}
use Rattle.records.proofs.Laws.{by_each}
use Rattle.records.proofs.is_stop.Goals as goal

pub returns-in-Stop : goal.returns-in-Stop
unfolding node_of is_stop
returns-in-Stop c = rw c.in-Stop.is refl

pub returns-in_default : goal.returns-in_default
unfolding is_stop
returns-in_default c =
    by_each c.args.r (λ k n. c.args.r.kind ≡ k → false ≡ is_stop n)
    (λ e. absurd (c.in_default.not-Stop e)) (λ e. refl) (λ e. refl) (λ e. refl) (λ e. refl) (λ e. refl) (λ e. refl) (λ x e. refl) refl
