-- Four words of a row are a row.
use Rattle.std.proofs.Common.{arith}
use Rattle.std.proofs.lemmas.Grind.{common_steps}
use Rattle.marks.proofs.Laws.{row_copied}
use Rattle.marks.proofs.row_at.Goals as goal

pub returns : goal.returns
returns c = row_copied c.args.rows.now c.args.u _ (grind (arith, common_steps))
