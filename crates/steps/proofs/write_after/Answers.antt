-- What stays is moved together, and both unfoldings are written right behind each other (`words_are`).
use Prim.Native.Nat.{◌-◌}
use native.Mathlib.Omega.{arith}
use mathlib.Core.Path.{◌≡◌, ap, ◌∙◌}
use mathlib.Core.Bool.{Bool, cond}
use Rattle.laws.specs.Lists.{put}
use Rattle.model.specs.Calculus.{keep}
use Rattle.model.specs.Memory.{threads_in, words_of, is_resource}
use Rattle.records.specs.Record.{node_of}
use Rattle.arrays.proofs.Agents.{left_below}
use Rattle.threads.specs.Threads.{remains}
use Rattle.steps.proofs.Laws as L
use Rattle.steps.proofs.write_after.Goals as goal
use Rattle.steps.proofs.write_after.Goals.{After-kept_count-kept}

-- how many stay
stay : (c : After-kept_count-kept) → let x = c.args in c.kept_count-kept.result ≡ x.counts.threads - cond (is_resource (node_of x.m.p)) 1 2
stay c = c.kept_count-kept.ensures ∙ ap (λ (b : Bool). c.args.counts.threads - cond b 1 2) c.is_resource-resource.ensures

pub kept_count-kept-requires : goal.kept_count-kept-requires
kept_count-kept-requires c = L.two-threads c.requires.meets.0

pub unfold_node-mid-requires : goal.unfold_node-mid-requires
unfold_node-mid-requires c = record {
  node = left_below c.args.ground.now.prepared.read c.requires.meets.0.reads (L.receiver-agent c.requires.meets.0);
  marker = c.requires.meets.1;
  names = L.length-near c.requires.meets.0 c.requires.bound c.args.ground.now.choices.now c.args.marker;
  few = omega (arith, stay (goal.at.unfold_node-mid-requires c).After-kept_count-kept, c.requires.meets.0.met.few);
}

pub unfold_node-requires : goal.unfold_node-requires
unfold_node-requires c = record {
  node = left_below c.args.ground.now.prepared.read c.requires.meets.0.other (L.sender-agent c.requires.meets.0);
  marker = omega (arith, c.requires.meets.0.met.other, c.requires.meets.0.met.listed);
  names = L.length-far c.requires.meets.0 c.requires.bound c.args.ground.now.choices.now c.args.marker;
  few = omega (arith, c.unfold_node-mid.ensures.1.counted);
}

pub returns : goal.returns
returns c =
    let x = c.args in
    let l = x.threads.now in
    let stays = c.keep_threads.ensures
    ∙ ap (λ (b : Bool). put 0 (words_of (keep (remains b x.m.receiver x.m.sender) (threads_in x.ground.now.array.trailer.names x.counts.threads l))) l)
    c.is_resource-resource.ensures in
    L.words_are c.requires.meets.0 c.requires.bound x.ground.now.choices.now x.marker _ _ _ _ _ _ (stay (goal.at.returns c).After-kept_count-kept) stays c.keep_threads.auto.threads
    c.unfold_node-mid.ensures.1 c.unfold_node-mid.auto.threads c.unfold_node.ensures.1 c.requires.marker_len_bound
