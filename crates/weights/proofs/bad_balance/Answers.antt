-- Each balance's test is the definition's, by the marks.
use mathlib.Core.Path.{◌≡◌, sym, ◌∙◌}
use mathlib.Core.Bool.{◌&&◌}
use lib.ListN.{length, take}
use Rattle.laws.proofs.Search.{first-zero}
use Rattle.records.specs.ArrayFile.{array_in}
use Rattle.layout.specs.Table.{balance_at, weights_fit, padding_fits, refusal20}
use Rattle.weights.specs.Weights.{marked_fit, padding_zero}
use Rattle.weights.proofs.Laws.{by-marks}
use borrow.Author.Rules.{rules}
use native.Mathlib.Omega.{arith}
use Rattle.weights.proofs.bad_balance.Goals as goal

pub returns-then-table-eq0 : goal.returns-then-table-eq0
unfolding refusal20
returns-then-table-eq0 c = rw c.if-table-eq0.true (sym (first-zero _))

pub returns : goal.returns
unfolding refusal20
returns c =
    let a = array_in c.args.array.now in
    let s = c.args.table.now.bytes.now in
    let at = balance_at c.args.table.now.sizes in
    let agents = c.mark_agents-agents.result in
    c.first_failing.ensures (λ k. weights_fit a s (at k) && padding_fits a s (at k))
    (λ k h before b told.
    let marks = take a.size agents in
    let e : b ≡ marked_fit marks s (at k) && padding_zero (length marks) s (at k) = search rules in
    e ∙ by-marks a agents s (at k) (omega arith) c.mark_agents-agents.ensures)
