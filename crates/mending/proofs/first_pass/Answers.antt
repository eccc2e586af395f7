-- Every receiver is in reach and every sender chosen.
use native.Mathlib.Omega.{arith}
use Rattle.pairs.proofs.Beside.{given-beside}
use Rattle.mending.proofs.Passing.{clean-first}
use Rattle.mending.proofs.first_pass.Goals as goal

pub returns-clause-clean : goal.returns-clause-clean
returns-clause-clean c =
    let a = c.sweep.ensures in
    clean-first (given-beside c.args.w.now c.sweep.new.so_far.rows (omega (arith, a.grew.size))) _ a.swept
