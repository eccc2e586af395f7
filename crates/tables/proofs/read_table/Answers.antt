-- By the array's answer, then by the table's.
use mathlib.Core.Path.{◌≡◌, refl, sym, ap, ◌∙◌}
use Rattle.std.proofs.lemmas.Result.{err_from_is_err_and}
use Rattle.laws.proofs.Search.{test-clear, and_then-split}
use Rattle.records.specs.Record.{told, found_of}
use Rattle.records.proofs.Checks.{passes}
use Rattle.layout.specs.declared.Sizes.{Sizes}
use Rattle.layout.specs.Table.{sizes_of, table_length_fits}
use Rattle.tables.specs.Read.{table_refusal, sizes_answer, read_table}
use Rattle.tables.proofs.Laws.{length-fits, array-refused, array-read}
use Rattle.tables.proofs.read_table.Goals as goal
use Rattle.tables.proofs.read_table.Goals.{After-check_table}

-- the answer, once the table is checked
checked : (c : After-check_table) (z : Sizes) → z ≡ sizes_of c.in_ok-file.file.trailer c.args.table.now
    → sizes_answer (found_of c.check_table.result) z ≡ read_table c.args.array.now c.args.table.now
checked c z e =
    let s = c.args.table.now in
    let t = c.in_ok-file.file.trailer in
    array-read c.args.array.now s t _ z (sym c.in_ok-file.ensures.answer)
    (c.check_table.ensures ∙ ap (λ f. table_refusal f t s) c.in_ok-file.ensures.file.0) e

pub read_sizes-requires : goal.read_sizes-requires
read_sizes-requires c =
    let s = c.args.table.now in
    length-fits s (test-clear (table_length_fits s) _ (and_then-split _ _ (passes c.check_table.result c.check_table.ensures c.in_ok-check_table.was)).0)

pub returns-in_err-file : goal.returns-in_err-file
returns-in_err-file c =
    let x = c.args in
    let p = err_from_is_err_and c.from_residual.result c.from_residual.ensures.1 in
    rw (p.1, p.2) (array-refused x.array.now x.table.now (told c.in_err-file.field-0.0) (sym c.in_err-file.ensures.answer))

pub returns-in_err-check_table : goal.returns-in_err-check_table
returns-in_err-check_table c =
    let t = c.in_ok-file.file.trailer in
    let p = err_from_is_err_and c.from_residual-in_err-check_table.result c.from_residual-in_err-check_table.ensures.1 in
    rw (p.1, p.2) (ap (λ x. sizes_answer (found_of x) (sizes_of t c.args.table.now)) (sym c.in_err-check_table.was)
    ∙ checked (goal.at.returns-in_err-check_table c).After-check_table _ refl)

pub returns : goal.returns
returns c =
    ap (λ x. sizes_answer (found_of x) c.read_sizes.result) (sym c.in_ok-check_table.was)
    ∙ checked (goal.at.returns c).After-check_table c.read_sizes.result c.read_sizes.ensures
