-- Refusals 14 and 15 by their tests, then the rest.
use mathlib.Core.Path.{◌≡◌, refl, sym, ap, ◌∙◌}
use mathlib.Core.Bool.{Bool, true, not}
use Rattle.std.specs.Prelude.{Option, Some, None}
use Rattle.std.specs.Option.{option_eq}
use Rattle.records.specs.declared.Reason.TheVariants.{TableLetters, TableSizes}
use Rattle.records.proofs.Checks.{fails, holds}
use Rattle.layout.specs.declared.Form.{Form}
use Rattle.layout.specs.declared.Form.TheVariants.{Pic1, Other}
use Rattle.layout.specs.contracts.FormPartialEq.TheImpl.{eq-value as the_eq}
use Rattle.layout.specs.Table.{is_pic1}
use Rattle.tables.proofs.Laws.{counts-fit}
use Rattle.tables.proofs.check_letters.Goals as goal
use Rattle.tables.proofs.check_letters.Goals.{Else-ne}

-- the comparison with the one format, as code makes it
letters : (form : Option Form) (ne : Bool) → ne ≡ not (option_eq the_eq.it form (Some Pic1)) → is_pic1 form ≡ not ne
letters None ne e = sym (ap not e)
letters (Some Pic1) ne e = sym (ap not e)
letters (Some (Other n)) ne e = sym (ap not e)

named : (c : Else-ne) → is_pic1 c.args.z.form ≡ true
named c = letters _ _ c.ne.ensures ∙ ap not c.if-ne.false

pub returns-then-ne : goal.returns-then-ne
returns-then-ne c = rw c.into.ensures (fails TableLetters _ _ _ refl (letters _ _ c.ne.ensures ∙ ap not c.if-ne.true))

pub returns-then-not-z-most_balances : goal.returns-then-not-z-most_balances
returns-then-not-z-most_balances c =
    let tested = c.if-not-z-most_balances.true in
    holds TableLetters _ _ (named (goal.at.returns-then-not-z-most_balances c).Else-ne)
    (rw c.into-then-not-z-most_balances.ensures (fails TableSizes _ _ _ refl (rw c.most_balances.ensures at tested)))

pub check_parts-requires : goal.check_parts-requires
check_parts-requires c =
    let tested = c.if-not-z-most_balances.false in
    let counts = counts-fit c.args.z (rw c.most_balances.ensures at tested) in
    (c.requires.0, c.requires.1, counts.0, counts.1, c.requires.2)

pub returns : goal.returns
returns c =
    let tested = c.if-not-z-most_balances.false in
    holds TableLetters _ _ (named (goal.at.returns c).Else-ne) (holds TableSizes _ _ (rw c.most_balances.ensures at tested) c.check_parts.ensures)
