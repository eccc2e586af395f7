use mathlib.Core.Path.{sym}
use Rattle.laws.proofs.Search.{every-zero, every-step}
use Rattle.weights.proofs.weights_fit.Goals as goal

pub loop-i-init : goal.loop-i-init
loop-i-init c = sym (every-zero _)

pub loop-i-preserved : goal.loop-i-preserved
loop-i-preserved c = rw (c.loop-i.invariant, c.u16_at.ensures) (sym (every-step _ _))
