-- The agents are read before the step; what `fire` leaves is what the turn leaves.
use native.Mathlib.Omega.{arith}
use mathlib.Core.Path.{refl}
use Rattle.steps.specs.Steps.{Lies}
use Rattle.steps.proofs.Laws.{lies}
use Rattle.engine.proofs.Laws.{turn_stopped, turn-made}
use Rattle.engine.proofs.pair_turn.Goals as goal
use Rattle.engine.proofs.pair_turn.Goals.{Start}

-- where the two threads lie
receiver : (c : Start) → Lies c.args.ground.now.array.trailer c.args.threads.now c.args.pair.receiver
receiver c = let x = c.args in lies x.threads.now x.markers.now x.counts c.args.ground.now.prepared.read c.requires.counts_value.0 x.pair.receiver c.requires.counts_value.1

sender : (c : Start) → Lies c.args.ground.now.array.trailer c.args.threads.now c.args.pair.sender
sender c = let x = c.args in lies x.threads.now x.markers.now x.counts c.args.ground.now.prepared.read c.requires.counts_value.0 x.pair.sender c.requires.counts_value.2

pub overflow_mul-receiver : goal.overflow_mul-receiver
overflow_mul-receiver c = omega (arith, (receiver (goal.at.overflow_mul-receiver c).Start).small)

pub offset_bounds-threads-pair : goal.offset_bounds-threads-pair
offset_bounds-threads-pair c = omega (arith, (receiver (goal.at.offset_bounds-threads-pair c).Start).small)

pub bounds-threads-pair : goal.bounds-threads-pair
bounds-threads-pair c = omega (arith, (receiver (goal.at.bounds-threads-pair c).Start).inside)

pub overflow_mul-sender : goal.overflow_mul-sender
overflow_mul-sender c = omega (arith, (sender (goal.at.overflow_mul-sender c).Start).small)

pub offset_bounds-threads-pair-2 : goal.offset_bounds-threads-pair-2
offset_bounds-threads-pair-2 c = omega (arith, (sender (goal.at.offset_bounds-threads-pair-2 c).Start).small)

pub bounds-threads-pair-2 : goal.bounds-threads-pair-2
bounds-threads-pair-2 c = omega (arith, (sender (goal.at.bounds-threads-pair-2 c).Start).inside)

pub returns-in-Err : goal.returns-in-Err
returns-in-Err c =
    let x = c.args in
    turn_stopped x.ground.now.array.bytes.now x.ground.now.array.trailer x.ground.now.choices.now x.threads.now x.markers.now x.counts x.pair.receiver x.pair.sender x.allowance _ _ _ _
    c.fire-fired.ensures c.in-Err.is

pub returns-in-Ok : goal.returns-in-Ok
returns-in-Ok c =
    let x = c.args in
    turn-made x.ground.now.array.bytes.now x.ground.now.array.trailer x.ground.now.choices.now x.threads.now x.markers.now x.counts x.pair.receiver x.pair.sender _ _ _ _
    c.fire-fired.ensures c.in-Ok.is _ _ refl refl
    c.requires.counts_value.1 c.requires.counts_value.2 x.allowance _ c.spend-lessened.ensures
