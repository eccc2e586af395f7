-- By the array's answer, the table's, then refusal 32 or what was mended.
use mathlib.Core.Path.{◌≡◌, sym, ap, ◌∙◌, subst}
use native.Mathlib.Omega.{arith}
use Rattle.std.specs.Prelude.{Ok, Err}
use Rattle.std.proofs.lemmas.Result.{err_from_is_err_and}
use Rattle.laws.proofs.Search.{test-clear, and_then-split}
use Rattle.records.specs.Record.{found_of}
use Rattle.records.proofs.Checks.{passes}
use Rattle.arrays.specs.File.{read_array}
use Rattle.arrays.proofs.Laws.{read_is}
use Rattle.layout.specs.Table.{table_length_fits, IsTable}
use Rattle.layout.proofs.Laws.{claims-lie}
use Rattle.tables.proofs.Laws.{length-fits, passed-table}
use Rattle.handover.specs.Mending.{MendPromise}
use Rattle.handover.proofs.Mending.{mend-array-refused, mend-table-refused, mend-short, mend-passed}
use Rattle.handover.proofs.mend.Goals as goal
use Rattle.handover.proofs.mend.Goals.{In_ok-file, After-read_sizes-z}

-- the file was read
read : (c : In_ok-file) → read_array c.in_ok-file.file.bytes.now ≡ Ok c.in_ok-file.file.trailer
read c = ap read_array c.in_ok-file.ensures.file.0 ∙ sym c.in_ok-file.ensures.answer

pub read_sizes-z-requires : goal.read_sizes-z-requires
read_sizes-z-requires c =
    let s = c.args.table.now in
    length-fits s (test-clear (table_length_fits s) _ (and_then-split _ _ (passes c.check_table.result c.check_table.ensures c.in_ok-check_table.was)).0)

-- and so was the table
table : (c : After-read_sizes-z) → let a = c.in_ok-file.file in IsTable a.bytes.now a.trailer c.args.table.now c.read_sizes-z.result
table c =
    subst (IsTable _ _ _) (sym c.read_sizes-z.ensures) (passed-table _ _ _ (passes c.check_table.result c.check_table.ensures c.in_ok-check_table.was))

pub invariant_of-read : goal.invariant_of-read
invariant_of-read c =
    let a = c.in_ok-file.file in record {
      lies = claims-lie a.trailer c.args.table.now c.read_sizes-z.result a.few_nodes a.few_names (table (goal.at.invariant_of-read c).After-read_sizes-z).laid;
      are_bytes = λ i. omega (arith, c.type_inv.table i);
    }

pub mend_table-requires : goal.mend_table-requires
mend_table-requires c = (
  read_is _ _ (read (goal.at.mend_table-requires c).In_ok-file),
  table (goal.at.mend_table-requires c).After-read_sizes-z,
  omega (arith, c.if-output-table.false),
)

pub returns-in_err-file : goal.returns-in_err-file
returns-in_err-file c =
    let p = err_from_is_err_and c.from_residual.result c.from_residual.ensures.1 in
    rw (p.1, p.2) (mend-array-refused _ _ _ _ (sym c.in_err-file.ensures.answer))

pub returns-in_err-check_table : goal.returns-in_err-check_table
returns-in_err-check_table c =
    let x = c.args in
    let e = c.in_ok-file.ensures.file in
    let p = err_from_is_err_and c.from_residual-in_err-check_table.result c.from_residual-in_err-check_table.ensures.1 in
    rw (p.1, p.2) (subst (λ f. MendPromise f x.table.now x.output.now (Err c.in_err-check_table.field-0.0) x.output.now) e.0
    (mend-table-refused _ _ _ _ _ (read (goal.at.returns-in_err-check_table c).In_ok-file) (ap found_of (sym c.in_err-check_table.was) ∙ c.check_table.ensures)))

pub returns-then-output-table : goal.returns-then-output-table
returns-then-output-table c =
    let x = c.args in
    let e = c.in_ok-file.ensures.file in
    rw c.into.ensures (subst (λ f. MendPromise f x.table.now x.output.now (Err _) x.output.now) e.0
    (mend-short _ _ _ _ (read (goal.at.returns-then-output-table c).In_ok-file) (passes c.check_table.result c.check_table.ensures c.in_ok-check_table.was) (omega (arith, c.if-output-table.true))))

pub returns : goal.returns
returns c =
    let x = c.args in
    let e = c.in_ok-file.ensures.file in
    subst (λ f. MendPromise f x.table.now x.output.now (Ok c.mend_table.result) c.mend_table.new.output) e.0
    (mend-passed _ _ _ _ _ _ _ (read (goal.at.returns c).In_ok-file) (passes c.check_table.result c.check_table.ensures c.in_ok-check_table.was) c.read_sizes-z.ensures
    (omega (arith, c.if-output-table.false))
    (λ i. omega (arith, c.type_inv.table i)) c.mend_table.ensures.value c.mend_table.ensures.output_after)
