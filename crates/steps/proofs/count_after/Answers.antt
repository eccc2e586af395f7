-- What stays is counted, and then the threads of both continuations.
use Prim.Native.Nat.{ℕ, ◌+◌, ◌-◌, min}
use native.Mathlib.Omega.{arith}
use mathlib.Core.Path.{◌≡◌, ap, ◌∙◌}
use mathlib.Core.Bool.{Bool, cond}
use lib.ListN.{length}
use Rattle.model.specs.Memory.{is_resource}
use Rattle.records.specs.Record.{node_of}
use Rattle.arrays.proofs.Agents.{left_below}
use Rattle.unfolds.specs.Unfold.{unfolded}
use Rattle.steps.proofs.Laws as L
use Rattle.steps.proofs.count_after.Goals as goal
use Rattle.steps.proofs.count_after.Goals.{After-kept_count-kept}

-- how many stay
stay : (c : After-kept_count-kept) → let x = c.args in c.kept_count-kept.result ≡ x.counts.threads - cond (is_resource (node_of x.m.p)) 1 2
stay c = c.kept_count-kept.ensures ∙ ap (λ (b : Bool). c.args.counts.threads - cond b 1 2) c.is_resource.ensures

pub kept_count-kept-requires : goal.kept_count-kept-requires
kept_count-kept-requires c = L.two-threads c.requires.meets.0

pub count_threads-mid-requires : goal.count_threads-mid-requires
count_threads-mid-requires c = record {
  node = left_below c.args.ground.now.prepared.read c.requires.meets.0.reads (L.receiver-agent c.requires.meets.0);
  marker = c.requires.meets.1;
  names = L.length-near c.requires.meets.0 c.requires.bound c.args.ground.now.choices.now c.args.marker;
  few = omega (arith, stay (goal.at.count_threads-mid-requires c).After-kept_count-kept, c.requires.meets.0.met.few);
}

pub count_threads-requires : goal.count_threads-requires
count_threads-requires c = record {
  node = left_below c.args.ground.now.prepared.read c.requires.meets.0.other (L.sender-agent c.requires.meets.0);
  marker = omega (arith, c.requires.meets.0.met.other, c.requires.meets.0.met.listed);
  names = L.length-far c.requires.meets.0 c.requires.bound c.args.ground.now.choices.now c.args.marker;
  few = omega (arith, c.count_threads-mid.ensures.1);
}

pub returns : goal.returns
returns c =
    let x = c.args in
    let near = unfolded x.ground.now.array.bytes.now x.ground.now.array.trailer x.ground.now.choices.now x.m.p.left x.marker x.near.now in
    let mid = c.count_threads-mid.ensures.1 ∙ ap (λ (k : ℕ). min 257 (k + length near)) (stay (goal.at.returns c).After-kept_count-kept) in (
      c.count_threads-mid.ensures.0,
      c.count_threads.ensures.0,
      L.count-is c.requires.meets.0 c.requires.bound x.ground.now.choices.now x.marker _ _ mid c.count_threads.ensures.1,
    )
