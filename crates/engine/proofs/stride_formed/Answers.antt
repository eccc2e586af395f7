-- The first ready pair decides: none is quiet; one with no step left is spent; else its turn.
use native.Mathlib.Omega.{arith}
use mathlib.Core.Path.{refl}
use Rattle.model.specs.Calculus.{choices_of}
use Rattle.steps.proofs.Laws.{fit, agent-at}
use Rattle.engine.proofs.Laws.{stride-quiet, stride-spent, stride-turn, pair-ready}
use Rattle.engine.proofs.stride_formed.Goals as goal

pub first_ready-requires : goal.first_ready-requires
first_ready-requires c =
    let x = c.args in
    let l = x.threads.now in
    let ml = x.markers.now in
    let read = c.args.ground.now.prepared.read in
    let k = fit l ml x.counts read c.requires in record {
      read = (read, k.0, k.1);
      by_index = agent-at l ml x.counts read c.requires;
    }

pub returns-then-allowance-eq0 : goal.returns-then-allowance-eq0
returns-then-allowance-eq0 c =
    let x = c.args in
    let cs = choices_of x.ground.now.choices.now in (
      stride-spent x.ground.now.array.bytes.now x.ground.now.array.trailer x.threads.now x.markers.now x.counts cs x.allowance.left _ (c.first_ready.ensures cs) _
          c.in-Some.is c.if-allowance-eq0.true,
      refl,
      refl,
    )

pub pair_turn-requires : goal.pair_turn-requires
pair_turn-requires c =
    let x = c.args in
    let cs = choices_of x.ground.now.choices.now in
    let b = pair-ready x.ground.now.array.bytes.now x.ground.now.array.trailer x.threads.now x.markers.now x.counts cs x.allowance.left _ (c.first_ready.ensures cs) _
    c.in-Some.is in record {
      counts_value = (c.requires, b.0, b.1);
      nobody_value = b.2;
      left_nonzero = (let h = c.if-allowance-eq0.false in omega (arith, h));
    }

pub returns-in_default : goal.returns-in_default
returns-in_default c =
    let x = c.args in
    let cs = choices_of x.ground.now.choices.now in (
      stride-quiet x.ground.now.array.bytes.now x.ground.now.array.trailer x.threads.now x.markers.now x.counts cs x.allowance.left _ (c.first_ready.ensures cs)
          c.in_default.is,
      refl,
      refl,
    )

pub returns : goal.returns
returns c =
    let x = c.args in
    let cs = choices_of x.ground.now.choices.now in
    let e = stride-turn x.ground.now.array.bytes.now x.ground.now.array.trailer x.threads.now x.markers.now x.counts cs x.allowance.left _ (c.first_ready.ensures cs) _
    c.in-Some.is c.if-allowance-eq0.false in
    rw e c.pair_turn.ensures
