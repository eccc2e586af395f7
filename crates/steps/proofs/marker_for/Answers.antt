-- An in keeps its marker (`in-marker`); a resource's is searched for, and found or one more (`own-marker`).
use Prim.Native.Nat.{ℕ, ◌+◌}
use native.Mathlib.Omega.{arith}
use mathlib.Core.Path.{refl, sym, ap, ◌∙◌}
use Rattle.steps.proofs.Laws.{in-marker, listed-marker, new-marker}
use Rattle.steps.proofs.marker_for.Goals as goal

pub returns-then-not-is_resource : goal.returns-then-not-is_resource
returns-then-not-is_resource c =
    let e = sym c.is_resource.ensures ∙ c.if-not-is_resource.true in
    in-marker c.requires.0 c.args.markers.now e _ refl refl

pub returns-in-Some : goal.returns-in-Some
returns-in-Some c =
    let e = sym c.is_resource.ensures ∙ c.if-not-is_resource.false in
    let at = c.in-Some.ensures in
    listed-marker c.requires.0 c.args.markers.now e _ c.entry_of-entry.ensures _ (rw at.1 at.0) (ap (λ (k : ℕ). k + 1) (sym at.1)) refl

pub returns-in-None : goal.returns-in-None
returns-in-None c =
    let e = sym c.is_resource.ensures ∙ c.if-not-is_resource.false in
    let past = c.in-None.ensures in
    new-marker c.requires.0 c.args.markers.now e _ c.entry_of-entry.ensures _ (omega (arith, past)) refl refl
