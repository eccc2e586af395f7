-- By what admits the array, then by what the engine answers.
use Rattle.std.proofs.lemmas.Result.{err_from_is_err_and}
use Rattle.handover.proofs.Calls.{walk-not, walk-stopped, walk-walked}
use Rattle.handover.proofs.walk.Goals as goal

pub walk_lists-requires : goal.walk_lists-requires
walk_lists-requires c =
    let a = c.in_ok-file.ensures in
    (rw (a.bytes) a.read, a.many)

pub returns-in_err-file : goal.returns-in_err-file
returns-in_err-file c =
    let x = c.args in
    let p = err_from_is_err_and c.from_residual.result c.from_residual.ensures.1 in
    rw (p.1, p.2) (walk-not x.array.now x.choices.now _ c.in_err-file.ensures x.threads.now x.markers.now x.counts x.allowed)

pub returns-in_err-walked : goal.returns-in_err-walked
returns-in_err-walked c =
    let x = c.args in
    let p = err_from_is_err_and c.from_residual-in_err-walked.result c.from_residual-in_err-walked.ensures.1 in
    rw (p.1, p.2) (walk-stopped x.array.now x.choices.now _ _ c.in_ok-file.ensures x.threads.now x.markers.now x.counts x.allowed _ _ _ c.walk_lists.ensures _ c.in_err-walked.was)

pub returns : goal.returns
returns c =
    let x = c.args in
    walk-walked x.array.now x.choices.now _ _ c.in_ok-file.ensures x.threads.now x.markers.now x.counts x.allowed _ _ _ c.walk_lists.ensures _ c.in_ok-walked.was
