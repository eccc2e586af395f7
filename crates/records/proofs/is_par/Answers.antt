use mathlib.Core.Path.{◌≡◌, refl}
use mathlib.Core.Bool.{false}
use Rattle.records.specs.Kinds.{is_par}
use Rattle.records.specs.Record.{node_of}
use Rattle.records.proofs.Laws.{by_each}
use Rattle.records.proofs.is_par.Goals as goal

pub returns-in-Par : goal.returns-in-Par
unfolding node_of is_par
returns-in-Par c = rw c.in-Par.is refl

pub returns-in_default : goal.returns-in_default
unfolding is_par
returns-in_default c =
    by_each c.args.r (λ k n. c.args.r.kind ≡ k → false ≡ is_par n)
    (λ e. refl) (λ e. refl) (λ e. absurd (c.in_default.not-Par e)) (λ e. refl) (λ e. refl) (λ e. refl) (λ e. refl) (λ x e. refl) refl
