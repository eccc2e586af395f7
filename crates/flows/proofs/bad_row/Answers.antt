-- The test of each row by marks is the definition's.
use mathlib.Core.Path.{◌∙◌}
use Rattle.records.specs.ArrayFile.{array_in}
use Rattle.marks.specs.Marks.{inside}
use Rattle.flows.proofs.Laws.{rows-checked}
use borrow.Author.Rules.{rules}
use Rattle.flows.proofs.bad_row.Goals as goal

pub returns : goal.returns
returns c =
    let x = c.args in
    let rows = c.flow_rows.new.rows in
    let news = c.opened-news.result in
    c.first_failing.ensures (λ v. inside rows v news 0) (λ v h before b told. search rules)
    ∙ rows-checked (array_in x.array.now) x.table.now.bytes.now x.table.now.sizes rows news c.flow_rows.ensures c.opened-news.ensures
