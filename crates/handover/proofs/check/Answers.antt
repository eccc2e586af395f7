-- By the array's answer, the table's, then the rules'.
use mathlib.Core.Path.{◌≡◌, sym, ap, ◌∙◌, subst}
use native.Mathlib.Omega.{arith}
use Rattle.std.specs.Prelude.{Ok, Err}
use Rattle.std.proofs.lemmas.Result.{err_from_is_err_and}
use Rattle.laws.proofs.Search.{test-clear, and_then-split}
use Rattle.records.specs.Record.{found_of}
use Rattle.records.proofs.Checks.{passes}
use Rattle.arrays.specs.File.{read_array}
use Rattle.arrays.proofs.Laws.{read_is}
use Rattle.layout.specs.Table.{table_length_fits, IsTable}
use Rattle.layout.proofs.Laws.{claims-lie}
use Rattle.tables.proofs.Laws.{length-fits, passed-table}
use Rattle.handover.specs.Front.{Judges}
use Rattle.handover.specs.Bodies.{verdict_of}
use Rattle.handover.proofs.Laws.{array-refused, table-refused, passed-judges}
use Rattle.handover.proofs.check.Goals as goal
use Rattle.handover.proofs.check.Goals.{In_ok-array, After-read_sizes-z}

-- the file was read
read : (c : In_ok-array) → read_array c.in_ok-array.array.bytes.now ≡ Ok c.in_ok-array.array.trailer
read c = ap read_array c.in_ok-array.ensures.file.0 ∙ sym c.in_ok-array.ensures.answer

pub read_sizes-z-requires : goal.read_sizes-z-requires
read_sizes-z-requires c =
    let s = c.args.table.now in
    length-fits s (test-clear (table_length_fits s) _ (and_then-split _ _ (passes c.check_table.result c.check_table.ensures c.in_ok-check_table.was)).0)

-- and so was the table
table : (c : After-read_sizes-z) → let a = c.in_ok-array.array in IsTable a.bytes.now a.trailer c.args.table.now c.read_sizes-z.result
table c =
    subst (IsTable _ _ _) (sym c.read_sizes-z.ensures) (passed-table _ _ _ (passes c.check_table.result c.check_table.ensures c.in_ok-check_table.was))

pub invariant_of-read : goal.invariant_of-read
invariant_of-read c =
    let a = c.in_ok-array.array in record {
      lies = claims-lie a.trailer c.args.table.now c.read_sizes-z.result a.few_nodes a.few_names (table (goal.at.invariant_of-read c).After-read_sizes-z).laid;
      are_bytes = λ i. omega (arith, c.type_inv.table i);
    }

pub judge-requires : goal.judge-requires
judge-requires c = (read_is _ _ (read (goal.at.judge-requires c).In_ok-array), table (goal.at.judge-requires c).After-read_sizes-z)

pub returns-in_err-array : goal.returns-in_err-array
returns-in_err-array c =
    let p = err_from_is_err_and c.from_residual.result c.from_residual.ensures.1 in
    rw (p.1, p.2) (array-refused _ _ _ (sym c.in_err-array.ensures.answer))

pub returns-in_err-check_table : goal.returns-in_err-check_table
returns-in_err-check_table c =
    let s = c.args.table.now in
    let e = c.in_ok-array.ensures.file in
    let p = err_from_is_err_and c.from_residual-in_err-check_table.result c.from_residual-in_err-check_table.ensures.1 in
    rw (p.1, p.2) (subst (λ f. Judges f s (Err c.in_err-check_table.field-0.0)) e.0
    (table-refused _ s _ _ (read (goal.at.returns-in_err-check_table c).In_ok-array) (ap found_of (sym c.in_err-check_table.was) ∙ c.check_table.ensures)))

pub returns : goal.returns
returns c =
    let s = c.args.table.now in
    let e = c.in_ok-array.ensures.file in
    rw c.verdict_of.ensures
    (subst (λ f. Judges f s (Ok (verdict_of c.judge.result c.read_sizes-z.result))) e.0
    (passed-judges _ s _ _ _ (read (goal.at.returns c).In_ok-array) (passes c.check_table.result c.check_table.ensures c.in_ok-check_table.was) c.read_sizes-z.ensures c.judge.ensures))
