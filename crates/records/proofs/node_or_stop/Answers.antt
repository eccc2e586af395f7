use mathlib.Core.Path.{sym, ap, ◌∙◌}
use Rattle.records.specs.Record.{node_of, array_of}
use Rattle.records.proofs.Laws.{node-of, node-past}
use Rattle.records.proofs.node_or_stop.Goals as goal

pub returns-then-t-i : goal.returns-then-t-i
unfolding node_of
returns-then-t-i c =
    let x = c.args in
    sym (node-past (array_of x.file.now x.t) x.i c.if-t-i.true)

pub returns : goal.returns
returns c =
    let x = c.args in
    ap node_of c.node_at.ensures ∙ sym (node-of x.file.now x.t x.i c.if-t-i.false)
