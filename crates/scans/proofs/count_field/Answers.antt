-- One entry is counted up, where a byte holds one more.
use mathlib.Core.Bool.{false≢true}
use Rattle.counts.proofs.Laws.{grown-set}
use Rattle.scans.proofs.count_field.Goals as goal

pub returns-then-parents-to-lt255 : goal.returns-then-parents-to-lt255
returns-then-parents-to-lt255 c e = grown-set c.args.parents.now c.args.to

pub returns : goal.returns
returns c e = absurd (false≢true e)
