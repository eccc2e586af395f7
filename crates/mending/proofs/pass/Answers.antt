-- Receivers on a name of the last pass beside every sender, then the other receivers beside the senders that use one.
use native.Mathlib.Omega.{arith}
use Rattle.pairs.proofs.Beside.{given-beside}
use Rattle.mending.proofs.Growth.{grew_trans}
use Rattle.mending.proofs.Passing.{clean-pass}
use Rattle.mending.proofs.pass.Goals as goal

pub returns-clause-grew : goal.returns-clause-grew
returns-clause-grew c = grew_trans c.sweep.ensures.grew c.sweep-2.ensures.grew

pub returns-clause-clean : goal.returns-clause-clean
returns-clause-clean c =
    let x = c.args.so_far.now in
    let a = c.sweep.ensures in
    let b = c.sweep-2.ensures in
    clean-pass (given-beside c.args.w.now x.rows (omega arith)) x.names c.requires a.grew a.swept b.grew b.swept
