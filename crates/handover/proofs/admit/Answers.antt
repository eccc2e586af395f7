-- The array's answer first, then the number of choice bytes.
use mathlib.Core.Path.{sym}
use Rattle.std.proofs.lemmas.Result.{err_from_is_err_and}
use Rattle.handover.proofs.Calls.{admit-refused, admit-22, admit-read}
use Rattle.handover.proofs.admit.Goals as goal

pub returns-in_err-file : goal.returns-in_err-file
returns-in_err-file c =
    let p = err_from_is_err_and c.from_residual.result c.from_residual.ensures.1 in
    rw (p.1, p.2) (admit-refused c.args.array.now c.args.choices.now _ (sym c.in_err-file.ensures.answer))

pub returns-then-choices-ne128 : goal.returns-then-choices-ne128
returns-then-choices-ne128 c =
    let e = c.in_ok-file.ensures in
    rw c.into.ensures (admit-22 c.args.array.now c.args.choices.now _ (sym e.answer) c.if-choices-ne128.true)

pub returns : goal.returns
returns c =
    let e = c.in_ok-file.ensures in
    admit-read c.args.array.now c.args.choices.now _ _ e.file.0 (sym e.answer) c.if-choices-ne128.false
