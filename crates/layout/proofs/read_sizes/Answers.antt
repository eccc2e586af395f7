-- Field by field, what each read ensures.
use Rattle.layout.proofs.read_sizes.Goals as goal

pub returns : goal.returns
returns c =
    simp (c.u16_at.ensures, c.u16_at-2.ensures, c.u32_at.ensures, c.table_form.ensures)
