-- The lists stand for the table of the files, so they are what the rules ask (`filled`), and the verdict is that over the bytes (`judged`).
use mathlib.Core.Path.{◌∙◌}
use Rattle.lists.specs.Listed.{Listed}
use Rattle.rules.proofs.Laws.{filled, judged}
use Rattle.rules.proofs.judge.Goals as goal
use Rattle.rules.proofs.judge.Goals.{After-fill_lists}

-- the lists stand for the table
listed : (c : After-fill_lists) → let a = c.args.array.now in let t = c.args.table.now in
    Listed a.bytes.now a.trailer t.bytes.now t.sizes c.flow_rows.new.rows c.fill_lists.new.loads c.fill_lists.new.bounds
listed c = c.fill_lists.ensures _ record { size = c.flow_rows.array_long; marks = c.flow_rows.ensures }

pub all_rules-requires : goal.all_rules-requires
all_rules-requires c =
    let a = c.args.array.now in
    let t = c.args.table.now in
    filled a.bytes.now a.trailer t.bytes.now t.sizes c.requires.1 t.are_bytes _ _ _ (listed (goal.at.all_rules-requires c).After-fill_lists)

pub returns : goal.returns
returns c =
    let a = c.args.array.now in
    let t = c.args.table.now in
    c.all_rules.ensures
    ∙ judged a.bytes.now a.trailer t.bytes.now t.sizes c.requires.1 t.are_bytes _ _ _ (listed (goal.at.returns c).After-fill_lists)
