-- The pass says that all are clear; else one refusal after another, each passed before the next is looked for.
use Rattle.std.proofs.Common.{sym}
use Rattle.records.proofs.Checks.{handed_on, goes_on, passed_on}
use Rattle.arrays.proofs.check_records.Goals as goal

pub returns-then-passes : goal.returns-then-passes
returns-then-passes c =
    let p = c.passes.ensures c.if-passes.true in
    goes_on _ _ p.shapes (goes_on _ _ p.unused (goes_on _ _ p.children (goes_on _ _ p.parents
    (goes_on _ _ p.named (goes_on _ _ p.bound (sym p.scoped))))))

pub returns-in_err-bad_shape : goal.returns-in_err-bad_shape
returns-in_err-bad_shape c =
    handed_on _ _ c.bad_shape.result _ c.in_err-bad_shape.field-0.0 c.bad_shape.ensures c.in_err-bad_shape.was c.from_residual.ensures.1

pub returns-in_err-bad_unused : goal.returns-in_err-bad_unused
returns-in_err-bad_unused c =
    passed_on _ _ c.bad_shape.result c.bad_shape.ensures c.in_ok-bad_shape.was
    (handed_on _ _ c.bad_unused.result _ c.in_err-bad_unused.field-0.0 c.bad_unused.ensures c.in_err-bad_unused.was c.from_residual-in_err-bad_unused.ensures.1)

pub returns-in_err-bad_child : goal.returns-in_err-bad_child
returns-in_err-bad_child c =
    passed_on _ _ c.bad_shape.result c.bad_shape.ensures c.in_ok-bad_shape.was
    (passed_on _ _ c.bad_unused.result c.bad_unused.ensures c.in_ok-bad_unused.was
    (handed_on _ _ c.bad_child.result _ c.in_err-bad_child.field-0.0 c.bad_child.ensures c.in_err-bad_child.was c.from_residual-in_err-bad_child.ensures.1))

pub returns-in_err-bad_parent : goal.returns-in_err-bad_parent
returns-in_err-bad_parent c =
    passed_on _ _ c.bad_shape.result c.bad_shape.ensures c.in_ok-bad_shape.was
    (passed_on _ _ c.bad_unused.result c.bad_unused.ensures c.in_ok-bad_unused.was
    (passed_on _ _ c.bad_child.result c.bad_child.ensures c.in_ok-bad_child.was
    (handed_on _ _ c.bad_parent.result _ c.in_err-bad_parent.field-0.0 c.bad_parent.ensures c.in_err-bad_parent.was c.from_residual-in_err-bad_parent.ensures.1)))

pub returns-in_err-bad_name : goal.returns-in_err-bad_name
returns-in_err-bad_name c =
    passed_on _ _ c.bad_shape.result c.bad_shape.ensures c.in_ok-bad_shape.was
    (passed_on _ _ c.bad_unused.result c.bad_unused.ensures c.in_ok-bad_unused.was
    (passed_on _ _ c.bad_child.result c.bad_child.ensures c.in_ok-bad_child.was
    (passed_on _ _ c.bad_parent.result c.bad_parent.ensures c.in_ok-bad_parent.was
    (handed_on _ _ c.bad_name.result _ c.in_err-bad_name.field-0.0 c.bad_name.ensures c.in_err-bad_name.was c.from_residual-in_err-bad_name.ensures.1))))

pub returns-in_err-bad_binding : goal.returns-in_err-bad_binding
returns-in_err-bad_binding c =
    passed_on _ _ c.bad_shape.result c.bad_shape.ensures c.in_ok-bad_shape.was
    (passed_on _ _ c.bad_unused.result c.bad_unused.ensures c.in_ok-bad_unused.was
    (passed_on _ _ c.bad_child.result c.bad_child.ensures c.in_ok-bad_child.was
    (passed_on _ _ c.bad_parent.result c.bad_parent.ensures c.in_ok-bad_parent.was
    (passed_on _ _ c.bad_name.result c.bad_name.ensures c.in_ok-bad_name.was
    (handed_on _ _ c.bad_binding.result _ c.in_err-bad_binding.field-0.0 c.bad_binding.ensures c.in_err-bad_binding.was c.from_residual-in_err-bad_binding.ensures.1)))))

pub returns : goal.returns
returns c =
    passed_on _ _ c.bad_shape.result c.bad_shape.ensures c.in_ok-bad_shape.was
    (passed_on _ _ c.bad_unused.result c.bad_unused.ensures c.in_ok-bad_unused.was
    (passed_on _ _ c.bad_child.result c.bad_child.ensures c.in_ok-bad_child.was
    (passed_on _ _ c.bad_parent.result c.bad_parent.ensures c.in_ok-bad_parent.was
    (passed_on _ _ c.bad_name.result c.bad_name.ensures c.in_ok-bad_name.was
    (passed_on _ _ c.bad_binding.result c.bad_binding.ensures c.in_ok-bad_binding.was
    (c.bad_reach.ensures))))))
