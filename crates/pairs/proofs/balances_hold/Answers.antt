use mathlib.Core.Path.{sym}
use Rattle.laws.proofs.Search.{every-zero, every-step}
use Rattle.pairs.proofs.balances_hold.Goals as goal

pub loop-k-init : goal.loop-k-init
loop-k-init c = sym (every-zero _)

pub loop-k-preserved : goal.loop-k-preserved
loop-k-preserved c = rw (c.loop-k.invariant, c.balance_holds-holds.ensures) (sym (every-step _ c.loop-k.k))
