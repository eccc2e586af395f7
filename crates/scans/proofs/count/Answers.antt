-- One entry is counted up.
use Rattle.counts.proofs.Laws.{grown-set}
use Rattle.scans.proofs.count.Goals as goal

pub returns : goal.returns
returns c = grown-set c.args.table.now c.args.at
