-- By what admits the array, then by what the engine answers.
use Rattle.std.proofs.lemmas.Result.{err_from_is_err_and}
use Rattle.handover.proofs.Calls.{step-not, step-stopped, step-made}
use Rattle.handover.proofs.step.Goals as goal

pub step-requires : goal.step-requires
step-requires c =
    let a = c.in_ok-file.ensures in
    (rw (a.bytes) a.read, a.many)

pub returns-in_err-file : goal.returns-in_err-file
returns-in_err-file c =
    let x = c.args in
    let p = err_from_is_err_and c.from_residual.result c.from_residual.ensures.1 in
    rw (p.1, p.2) (step-not x.array.now x.choices.now _ c.in_err-file.ensures x.threads.now x.markers.now x.counts x.receiver x.sender)

pub returns-in_err-made : goal.returns-in_err-made
returns-in_err-made c =
    let x = c.args in
    let p = err_from_is_err_and c.from_residual-in_err-made.result c.from_residual-in_err-made.ensures.1 in
    rw (p.1, p.2) (step-stopped x.array.now x.choices.now _ _ c.in_ok-file.ensures x.threads.now x.markers.now x.counts x.receiver x.sender _ _ _ c.step.ensures.0 _ c.in_err-made.was)

pub returns : goal.returns
returns c =
    let x = c.args in
    step-made x.array.now x.choices.now _ _ c.in_ok-file.ensures x.threads.now x.markers.now x.counts x.receiver x.sender _ _ _ c.step.ensures.0 _ c.in_ok-made.was
