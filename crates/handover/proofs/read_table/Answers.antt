-- By what the table reader answers.
use native.Mathlib.Omega.{arith}
use Rattle.handover.proofs.Laws.{table-promise}
use Rattle.handover.proofs.read_table.Goals as goal

pub returns : goal.returns
returns c = table-promise _ _ _ (λ i. omega (arith, c.type_inv.table i)) c.read_table.ensures
