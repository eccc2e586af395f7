use mathlib.Core.Path.{sym}
use Rattle.laws.proofs.Search.{every-zero, every-step}
use Rattle.pairs.proofs.arguments_hold.Goals as goal

pub loop-n-init : goal.loop-n-init
loop-n-init c = sym (every-zero _)

pub loop-n-preserved : goal.loop-n-preserved
loop-n-preserved c = rw (c.loop-n.invariant, c.argument_holds-holds.ensures) (sym (every-step _ c.loop-n.n))
