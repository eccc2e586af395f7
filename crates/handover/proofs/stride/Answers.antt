-- By what admits the array, then by what the engine answers.
use Rattle.std.proofs.lemmas.Result.{err_from_is_err_and}
use Rattle.handover.proofs.Calls.{stride-not, stride-stopped, stride-strode}
use Rattle.handover.proofs.stride.Goals as goal

pub next_turn-requires : goal.next_turn-requires
next_turn-requires c =
    let a = c.in_ok-file.ensures in
    (rw (a.bytes) a.read, a.many)

pub returns-in_err-file : goal.returns-in_err-file
returns-in_err-file c =
    let x = c.args in
    let p = err_from_is_err_and c.from_residual.result c.from_residual.ensures.1 in
    rw (p.1, p.2) (stride-not x.array.now x.choices.now _ c.in_err-file.ensures x.threads.now x.markers.now x.counts x.allowance)

pub returns-in_err-strode : goal.returns-in_err-strode
returns-in_err-strode c =
    let x = c.args in
    let p = err_from_is_err_and c.from_residual-in_err-strode.result c.from_residual-in_err-strode.ensures.1 in
    rw (p.1, p.2) (stride-stopped x.array.now x.choices.now _ _ c.in_ok-file.ensures x.threads.now x.markers.now x.counts x.allowance _ _ _ c.next_turn.ensures _ c.in_err-strode.was)

pub returns : goal.returns
returns c =
    let x = c.args in
    rw c.told_of.ensures
    (stride-strode x.array.now x.choices.now _ _ c.in_ok-file.ensures x.threads.now x.markers.now x.counts x.allowance _ _ _ c.next_turn.ensures _ c.in_ok-strode.was)
