-- The lists stand for the table; with the own marks, and what rule 3 asks for, they are the mended rows.
use mathlib.Core.Path.{ap, ◌∙◌}
use Rattle.laws.specs.Lists.{put}
use Rattle.lists.specs.Listed.{Listed}
use Rattle.mending.proofs.Result.{same-file, same_bits}
use Rattle.mending.proofs.mend_table.Goals as goal
use Rattle.mending.proofs.mend_table.Goals.{After-fill_lists}

-- the lists stand for the table
listed : (c : After-fill_lists) → let x = c.args in
    Listed x.array.now.bytes.now x.array.now.trailer x.table.now.bytes.now x.table.now.sizes c.flow_rows.new.rows c.fill_lists.new.loads c.fill_lists.new.bounds
listed c = c.fill_lists.ensures _ record { size = c.flow_rows.array_long; marks = c.flow_rows.ensures }

pub invariant_of-w : goal.invariant_of-w
invariant_of-w c =
    let g = (listed (goal.at.invariant_of-w c).After-fill_lists).given in
    record { is_weighed = record { read = g.read; few = g.lists.few; many_bounds = g.lists.many_bounds; weighed = g.weighed } }

pub returns-clause-value : goal.returns-clause-value
returns-clause-value c =
    c.new_bits.ensures
    ∙ same_bits (listed (goal.at.returns-clause-value c).After-fill_lists) c.own_marks.ensures c.mend_rows.ensures c.requires.1.laid.names

pub returns-clause-output_after : goal.returns-clause-output_after
returns-clause-output_after c =
    c.write_table.ensures
    ∙ ap (λ l. put 0 l c.args.output.now)
    (same-file (listed (goal.at.returns-clause-output_after c).After-fill_lists) c.own_marks.ensures c.mend_rows.ensures c.requires.1.laid.names)
