-- Each rule, where those before it are kept.
use mathlib.Core.Path.{◌∙◌}
use Rattle.model.specs.Rules.{verdict}
use Rattle.rules.proofs.Laws.{ends, rule-one, rule-two, rule-three, rule-four, rule-five, past-one, past-two, past-three, past-four}
use Rattle.rules.proofs.all_rules.Goals as goal

pub returns-in_err-first_rule : goal.returns-in_err-first_rule
unfolding verdict
returns-in_err-first_rule c =
    let x = c.args in
    let e = c.in_err-first_rule in
    ends _ e.field-0.0 c.from_residual.result (e.ensures ∙ rule-one x.w.now x.rows.now x.table.now.bytes.now x.table.now.sizes) c.from_residual.ensures.1

pub returns-in_err-second_rule : goal.returns-in_err-second_rule
returns-in_err-second_rule c =
    let x = c.args in
    let e = c.in_err-second_rule in
    let r = c.from_residual-in_err-second_rule in
    past-one x.w.now x.rows.now x.table.now.bytes.now x.table.now.sizes c.in_ok-first_rule.ensures
    (ends _ e.field-0.0 r.result (e.ensures ∙ rule-two x.w.now x.rows.now x.table.now.bytes.now x.table.now.sizes) r.ensures.1)

pub returns-in_err-pair_rule : goal.returns-in_err-pair_rule
returns-in_err-pair_rule c =
    let x = c.args in
    let e = c.in_err-pair_rule in
    let r = c.from_residual-in_err-pair_rule in
    past-two x.w.now x.rows.now x.table.now.bytes.now x.table.now.sizes c.in_ok-first_rule.ensures c.in_ok-second_rule.ensures
    (ends _ e.field-0.0 r.result (e.ensures ∙ rule-three x.w.now x.rows.now x.table.now.bytes.now x.table.now.sizes) r.ensures.1)

pub returns-in_err-pair_rule-2 : goal.returns-in_err-pair_rule-2
returns-in_err-pair_rule-2 c =
    let x = c.args in
    let e = c.in_err-pair_rule-2 in
    let r = c.from_residual-in_err-pair_rule-2 in
    past-three x.w.now x.rows.now x.table.now.bytes.now x.table.now.sizes c.in_ok-first_rule.ensures c.in_ok-second_rule.ensures c.in_ok-pair_rule.ensures
    (ends _ e.field-0.0 r.result (e.ensures ∙ rule-four x.w.now x.rows.now x.table.now.bytes.now x.table.now.sizes) r.ensures.1)

pub returns : goal.returns
returns c =
    let x = c.args in
    past-four x.w.now x.rows.now x.table.now.bytes.now x.table.now.sizes c.in_ok-first_rule.ensures c.in_ok-second_rule.ensures c.in_ok-pair_rule.ensures c.in_ok-pair_rule-2.ensures
    (c.fifth_rule.ensures ∙ rule-five x.w.now x.rows.now x.table.now.bytes.now x.table.now.sizes c.requires.sets)
