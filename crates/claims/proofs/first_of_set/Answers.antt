use Prim.Native.Nat.{ℕ, ◌<◌}
use native.Mathlib.Nat.{eq-or-lt_of_le, le_of_suc-le-suc}
use mathlib.Core.Path.{◌≡◌, sym, ap, ◌∙◌}
use mathlib.Core.Logic.{⊎_elim}
use Rattle.model.specs.declared.Claim.{Claim}
use Rattle.layout.specs.Table.{table_of}
use Rattle.claims.proofs.Laws.{alone-first, numbered-first}
use native.Mathlib.Omega.{arith}
use Rattle.claims.proofs.first_of_set.Goals as goal
use Rattle.claims.proofs.first_of_set.Goals.{In-loop-z}

pub returns-then-set-eq0 : goal.returns-then-set-eq0
returns-then-set-eq0 c = alone-first _ _ (ap (λ (y : Claim). y.set) (sym c.read_claim-set.ensures) ∙ c.if-set-eq0.true)

pub loop-z-init : goal.loop-z-init
loop-z-init c = (omega arith, λ e h. absurd (omega arith))

pub read_claim-requires : goal.read_claim-requires
read_claim-requires c = let p = c.requires in (p.0, omega (arith, c.loop-z.invariant.0, p.1))

-- a claim with another number is not c
ahead : (c : In-loop-z) → c.loop-z.d < c.args.c
ahead c =
    let x = c.args in
    let l = c.loop-z in
    ⊎_elim
    (λ (q : l.d ≡ x.c).
    absurd (c.loop-z-test.true (ap (λ (y : Claim). y.set) (c.read_claim.ensures ∙ ap (table_of x.table.now x.z).claim q
    ∙ sym c.read_claim-set.ensures))))
    (λ h. h) (eq-or-lt_of_le l.invariant.0)

pub loop-z-smaller : goal.loop-z-smaller
loop-z-smaller c = let h = ahead (goal.at.loop-z-smaller c).In-loop-z in omega arith

pub loop-z-preserved : goal.loop-z-preserved
loop-z-preserved c =
    let x = c.args in
    let l = c.loop-z in (
      (let k = ahead (goal.at.loop-z-preserved c).In-loop-z in omega arith),
      λ e h q.
          ⊎_elim
          (λ (i : e ≡ l.d).
          c.loop-z-test.true (ap (λ (y : Claim). y.set) (c.read_claim.ensures ∙ ap (table_of x.table.now x.z).claim (sym i)) ∙ q))
          (λ k. l.invariant.1 e k q) (eq-or-lt_of_le (le_of_suc-le-suc (omega (arith, h)))),
    )

pub returns : goal.returns
returns c =
    let number : Claim → ℕ = λ y. y.set in
    let own = ap number c.read_claim-set.ensures in
    let l = c.loop-z in
    let here = ap number c.read_claim.ensures in
    numbered-first _ _ _ (λ z. c.if-set-eq0.false (own ∙ z)) l.invariant.0 (sym here ∙ c.loop-z-test.false ∙ own)
    (λ e h q. l.invariant.1 e h (q ∙ sym own))
