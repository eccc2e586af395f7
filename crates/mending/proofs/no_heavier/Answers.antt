use mathlib.Core.Path.{sym}
use Rattle.laws.proofs.Search.{every-zero, every-step}
use Rattle.mending.proofs.no_heavier.Goals as goal

pub loop-k-init : goal.loop-k-init
loop-k-init c = sym (every-zero _)

pub loop-k-preserved : goal.loop-k-preserved
loop-k-preserved c =
    rw (c.loop-k.invariant, c.less.ensures, c.load_at-own.ensures.0, c.load_at-other.ensures.0) (sym (every-step _ c.loop-k.k))
