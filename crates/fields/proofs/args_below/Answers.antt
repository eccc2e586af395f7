use Rattle.std.proofs.Common.{sym}
use Rattle.laws.proofs.Search.{every-zero, every-step}
use Rattle.fields.specs.Fields.{arg_below}
use Rattle.fields.proofs.args_below.Goals as goal

pub loop-k-init : goal.loop-k-init
loop-k-init c = sym (every-zero _)

pub loop-k-preserved : goal.loop-k-preserved
loop-k-preserved c = rw (c.loop-k.invariant, c.from.ensures) (sym (every-step (arg_below c.args.n c.args.r) c.loop-k.k))
