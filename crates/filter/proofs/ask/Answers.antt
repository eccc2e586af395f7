-- The sets start without a sender.
use Rattle.pairs.proofs.Beside.{given-beside}
use Rattle.senders.proofs.Laws.{none-vacant}
use Rattle.filter.proofs.ask.Goals as goal

pub gather-requires : goal.gather-requires
gather-requires c =
    let w = c.args.w.now in
    record { given = (w.bounds.now, given-beside w c.args.rows.now c.told-rows); vacant = none-vacant }

pub sift-requires : goal.sift-requires
sift-requires c = (
  record { many_rows = c.told-rows; gathered = rw c.number.ensures at (c.gather.ensures c.args.w.now.bounds.now) },
  c.requires.0,
  c.requires.1,
)
