use mathlib.Core.Path.{sym}
use Rattle.laws.proofs.Search.{every-zero, every-step}
use Rattle.filter.proofs.needs_met.Goals as goal

pub loop-k-init : goal.loop-k-init
loop-k-init c = sym (every-zero _)

pub loop-k-preserved : goal.loop-k-preserved
loop-k-preserved c =
    rw (
      c.loop-k.invariant,
      c.less.ensures,
      c.load_at-in-loop-k.ensures.0,
      c.load_at-in-loop-k-2.ensures.0,
      c.gone-given.ensures.0,
      c.load_at.ensures.0,
    )
    (sym (every-step _ c.loop-k.k))
