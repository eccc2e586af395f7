-- Each list is filled from the files, so that with the rows they stand for the table (`filled`).
use Rattle.lists.proofs.Laws.{filled}
use Rattle.lists.proofs.fill_lists.Goals as goal

pub returns : goal.returns
returns c rows rowed =
    let a = c.args.array.now in
    let t = c.args.table.now in
    filled a.bytes.now a.trailer t.bytes.now t.sizes c.requires.0 c.requires.1 t.are_bytes rows c.all_loads.new.loads c.all_bounds.new.bounds rowed
    c.all_loads.array_long c.all_bounds.array_long c.all_loads.ensures c.all_bounds.ensures
