-- Refusals 16 and 17 by their tests, then the rest over parts that fit.
use mathlib.Core.Path.{refl, ◌≡◌, sym, ◌∙◌}
use mathlib.Core.Bool.{true}
use native.Mathlib.Omega.{arith}
use borrow.Author.Tests.{eq-eqb, ne_eqb}
use Rattle.layout.specs.Table.{parts_fit, Laid}
use Rattle.layout.proofs.Laws.{claims-lie}
use Rattle.records.specs.declared.Reason.TheVariants.{TableParts, TableSum}
use Rattle.records.proofs.Checks.{fails, holds}
use Rattle.tables.proofs.Laws.{parts-fill}
use Rattle.tables.proofs.check_parts.Goals as goal
use Rattle.tables.proofs.check_parts.Goals.{Else-not-parts_fit}

fit : (c : Else-not-parts_fit) → let x = c.args in parts_fit x.table.now x.z ≡ true
fit c = sym c.parts_fit.ensures ∙ c.if-not-parts_fit.false

pub returns-then-not-parts_fit : goal.returns-then-not-parts_fit
returns-then-not-parts_fit c = rw c.into.ensures (fails TableParts _ _ _ refl (sym c.parts_fit.ensures ∙ c.if-not-parts_fit.true))

pub returns-then-u32_at-word_sum : goal.returns-then-u32_at-word_sum
returns-then-u32_at-word_sum c =
    holds TableParts _ _ (fit (goal.at.returns-then-u32_at-word_sum c).Else-not-parts_fit)
    (rw c.into-then-u32_at-word_sum.ensures (fails TableSum _ _ _ refl (ne_eqb _ _ (λ e. c.if-u32_at-word_sum.true (c.u32_at.ensures ∙ e ∙ sym c.word_sum.ensures)))))

laid : (c : Else-not-parts_fit) → let x = c.args in Laid x.array.now.trailer x.table.now x.z
laid c = record {
  nodes = c.requires.0;
  names = c.requires.1;
  few_balances = c.requires.2;
  few_claims = c.requires.3;
  fills = parts-fill c.args.table.now c.args.z (fit c);
}

pub invariant_of-table : goal.invariant_of-table
invariant_of-table c =
    let a = c.args.array.now in record {
      lies = claims-lie a.trailer c.args.table.now c.args.z a.few_nodes a.few_names (laid (goal.at.invariant_of-table c).Else-not-parts_fit);
      are_bytes = λ i. omega (arith, c.type_inv.table i);
    }

pub check_rows-requires : goal.check_rows-requires
check_rows-requires c = laid (goal.at.check_rows-requires c).Else-not-parts_fit

pub returns : goal.returns
returns c =
    holds TableParts _ _ (fit (goal.at.returns c).Else-not-parts_fit)
    (holds TableSum _ _ (eq-eqb _ _ (sym c.u32_at.ensures ∙ c.if-u32_at-word_sum.false ∙ c.word_sum.ensures))
    c.check_rows.ensures)
