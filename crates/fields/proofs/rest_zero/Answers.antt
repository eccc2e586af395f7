use Rattle.std.proofs.Common.{sym}
use Rattle.laws.proofs.Search.{every-zero, every-step}
use Rattle.fields.specs.Fields.{rest_zero}
use Rattle.fields.proofs.rest_zero.Goals as goal

pub loop-k-init : goal.loop-k-init
loop-k-init c = sym (every-zero _)

pub loop-k-preserved : goal.loop-k-preserved
loop-k-preserved c = rw c.loop-k.invariant (sym (every-step (rest_zero c.args.r) c.loop-k.k))
