-- The table, the rows over it, and the end over both make the table with these rows (`table-written`).
use Prim.Native.Nat.{◌-◌}
use mathlib.Core.Path.{ap, ap₂, ◌∙◌}
use lib.ListN.{length}
use Rattle.laws.specs.Lists.{put}
use Rattle.wire.specs.Numbers.{seal_of}
use Rattle.marks.specs.Marks.{marked}
use Rattle.layout.specs.Table.{balance_at}
use Rattle.flows.specs.Written.{row_bytes}
use Rattle.flows.proofs.RowBytes.{table-written}
use Rattle.flows.proofs.write_table.Goals as goal

pub returns : goal.returns
returns c =
    let x = c.args in
    let s = x.table.now in
    let over = ap (put 0 (row_bytes (balance_at x.z 0) (marked x.rows.now))) c.copy_bytes.ensures in
    c.seal.ensures
    ∙ ap₂ (λ n w. put (length s - 8) (seal_of w (length s - 8) n) w) c.u32_at.ensures (c.put_rows.ensures ∙ over)
    ∙ table-written x.z (marked x.rows.now) s c.requires.rows_in_bounds.2 x.output.now c.requires.table_in_bounds
