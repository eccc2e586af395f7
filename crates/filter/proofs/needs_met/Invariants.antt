-- The flag of the loop says that the needs passed are met.
use mathlib.Core.Path.{◌≡◌}
use Rattle.laws.specs.Search.{every}
use Rattle.filter.specs.Filter.{need_met}
use Rattle.filter.proofs.needs_met.Given as goal

abbrev pub invariant-loop-k : goal.invariant-loop-k
invariant-loop-k l = l.met ≡ every l.k (need_met l.sets.needs l.w.loads.now l.g l.stays l.i l.l)
