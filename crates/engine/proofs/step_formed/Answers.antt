-- Positions past the count are 24, a pair that is not ready 25 to 27; the step of a ready pair is `fire`.
use Prim.Native.Nat.{ℕ, ◌<◌}
use native.Mathlib.Omega.{arith}
use mathlib.Core.Path.{refl}
use Rattle.std.proofs.lemmas.Result.{err_from_is_err_and}
use Rattle.model.proofs.Memory.{slot}
use Rattle.ready.specs.Ready.{Acts}
use Rattle.ready.proofs.Told.{some-refusal}
use Rattle.steps.proofs.Laws.{fit, agent-at}
use Rattle.engine.proofs.Laws.{step-24, inside, step-refused, meeting-is}
use Rattle.engine.proofs.step_formed.Goals as goal
use Rattle.engine.proofs.step_formed.Goals.{Else-count-pair}

-- the positions are below the count
below : (c : Else-count-pair) → let x = c.args in (x.pair.receiver < x.counts.threads) × (x.pair.sender < x.counts.threads)
below c =
    let x = c.args in
    let g = x.ground.now in
    inside g.array.bytes.now g.array.trailer x.threads.now x.markers.now x.counts g.choices.now x.pair.receiver x.pair.sender c.if-count-pair.false

pub returns-then-count-pair : goal.returns-then-count-pair
returns-then-count-pair c =
    let x = c.args in
    let g = x.ground.now in
    ((step-24 g.array.bytes.now g.array.trailer x.threads.now x.markers.now x.counts g.choices.now x.pair.receiver x.pair.sender c.if-count-pair.true, refl, refl), tt)

pub pair_refusal-requires : goal.pair_refusal-requires
pair_refusal-requires c =
    let x = c.args in
    let l = x.threads.now in
    let ml = x.markers.now in
    let g = x.ground.now in
    let t = g.array.trailer in
    let read = g.prepared.read in
    let b = below (goal.at.pair_refusal-requires c).Else-count-pair in
    let k = fit l ml x.counts read c.requires in
    let acts : (i : ℕ) → i < x.counts.threads → Acts g.array.bytes.now t l i = λ i h. record {
      inside = omega (arith, slot t.names i x.counts.threads h, k.1);
      agent = agent-at l ml x.counts read c.requires i h;
    } in
    (read, acts x.pair.receiver b.0, acts x.pair.sender b.1)

pub returns-in_err-pair_refusal : goal.returns-in_err-pair_refusal
returns-in_err-pair_refusal c =
    let x = c.args in
    let g = x.ground.now in
    let b = below (goal.at.returns-in_err-pair_refusal c).Else-count-pair in
    let p = err_from_is_err_and c.from_residual.result c.from_residual.ensures.1 in
    let e = c.in_err-pair_refusal.ensures in
    rw (p.1, p.2) (
      (
        step-refused g.array.bytes.now g.array.trailer x.threads.now x.markers.now x.counts g.choices.now x.pair.receiver x.pair.sender b.0 b.1 _ e
            (some-refusal c.in_err-pair_refusal.field-0.0),
        refl,
        refl,
      ),
      tt,
    )

pub fire-requires : goal.fire-requires
fire-requires c =
    let x = c.args in
    let g = x.ground.now in
    let b = below (goal.at.fire-requires c).Else-count-pair in
    let m = meeting-is g.array.bytes.now g.array.trailer x.threads.now x.markers.now x.counts g.choices.now x.pair.receiver x.pair.sender b.0 b.1 0 c.in_ok-pair_refusal.ensures in
    record { counts_value = (c.requires, b.0, b.1); nobody_value = m }
