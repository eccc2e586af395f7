use Prim.Native.Nat.{◌+◌}
use native.Mathlib.Omega.{arith}
use mathlib.Core.Path.{◌≡◌, refl, sym}
use mathlib.Core.Bool.{true}
use lib.Dec.{leb}
use borrow.Author.Tests.{lt-leb}
use Rattle.records.specs.Record.{kind_number}
use Rattle.records.proofs.Laws.{by_each}
use Rattle.fields.proofs.is_named.Goals as goal

pub returns-in-Other : goal.returns-in-Other
returns-in-Other c = rw c.in-Other.is (sym (lt-leb (7 + c.in-Other.field-0) 6 (omega arith)))

pub returns-in_default : goal.returns-in_default
returns-in_default c =
    by_each c.args.r (λ k n. c.args.r.kind ≡ k → true ≡ leb (kind_number k) 6) (λ e. refl) (λ e. refl) (λ e. refl) (λ e. refl) (λ e. refl) (λ e. refl)
    (λ e. refl) (λ x e. absurd (c.in_default.not-Other x e)) refl
