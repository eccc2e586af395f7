use Rattle.std.proofs.Common.{sym}
use Rattle.laws.proofs.Search.{every-zero, every-step}
use Rattle.scans.specs.Pass.{count_fits}
use Rattle.scans.proofs.bound_once.Goals as goal

pub loop-v-init : goal.loop-v-init
loop-v-init c = sym (every-zero _)

pub loop-v-preserved : goal.loop-v-preserved
loop-v-preserved c = let x = c.args in rw c.loop-v.invariant (sym (every-step (count_fits x.binders.now x.n) c.loop-v.v))
