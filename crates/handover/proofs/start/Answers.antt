-- By what admits the array, then by what the engine answers.
use Rattle.std.proofs.lemmas.Result.{err_from_is_err_and}
use Rattle.handover.proofs.Calls.{start-not, start-stopped, start-started}
use Rattle.handover.proofs.start.Goals as goal

pub start-requires : goal.start-requires
start-requires c =
    let a = c.in_ok-file.ensures in
    (rw (a.bytes) a.read, a.many)

pub returns-in_err-file : goal.returns-in_err-file
returns-in_err-file c =
    let x = c.args in
    let p = err_from_is_err_and c.from_residual.result c.from_residual.ensures.1 in
    rw (p.1, p.2) (start-not x.array.now x.choices.now _ c.in_err-file.ensures x.threads.now)

pub returns-in_err-started : goal.returns-in_err-started
returns-in_err-started c =
    let x = c.args in
    let p = err_from_is_err_and c.from_residual-in_err-started.result c.from_residual-in_err-started.ensures.1 in
    rw (p.1, p.2) (start-stopped x.array.now x.choices.now _ _ c.in_ok-file.ensures x.threads.now _ _ c.start.ensures.0 _ c.in_err-started.was)

pub returns : goal.returns
returns c =
    let x = c.args in
    start-started x.array.now x.choices.now _ _ c.in_ok-file.ensures x.threads.now _ _ c.start.ensures.0 _ c.in_ok-started.was
