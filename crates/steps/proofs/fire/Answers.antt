-- The records of the two agents are read; with them the pair meets, and its step is the model's (`step_is`).
use Prim.Native.Nat.{ℕ}
use mathlib.Core.Path.{◌≡◌, sym, subst}
use lib.ListN.{length, take, replicate}
use lib.Seq.{length-take-le}
use Rattle.steps.specs.declared.Meeting.{Meeting}
use Rattle.steps.specs.Steps.{Meets, Makes}
use Rattle.steps.proofs.Laws as L
use Rattle.steps.proofs.fire.Goals as goal
use Rattle.steps.proofs.fire.Goals.{After-meeting_at-m, Start}

-- the room is as long as an environment
room : (c : Start) → length {A = ℕ} (take c.args.ground.now.array.trailer.names (replicate 256 0)) ≡ c.args.ground.now.array.trailer.names
room c = length-take-le c.args.ground.now.array.trailer.names (replicate 256 0) c.args.ground.now.prepared.read.formed.few_names

meets : (c : After-meeting_at-m) → let x = c.args in Meets x.ground.now.array.bytes.now x.ground.now.array.trailer x.threads.now x.counts c.meeting_at-m.result
meets c =
    let x = c.args in
    subst (Meets x.ground.now.array.bytes.now x.ground.now.array.trailer x.threads.now x.counts) (sym c.meeting_at-m.ensures)
    (L.meets x.threads.now x.markers.now x.counts c.args.ground.now.prepared.read c.requires.counts_value.0 x.pair.receiver x.pair.sender c.requires.counts_value.1 c.requires.counts_value.2 c.requires.nobody_value x.ground.now.choices.now)

pub meeting_at-m-requires : goal.meeting_at-m-requires
meeting_at-m-requires c =
    let x = c.args in
    let lies = L.lies x.threads.now x.markers.now x.counts c.args.ground.now.prepared.read c.requires.counts_value.0 in
    (lies x.pair.receiver c.requires.counts_value.1, lies x.pair.sender c.requires.counts_value.2)

pub fire_meeting-requires : goal.fire_meeting-requires
fire_meeting-requires c =
    let x = c.args in
    let fits = L.markers-fit x.threads.now x.markers.now x.counts c.args.ground.now.prepared.read c.requires.counts_value.0 in record {
      meets = meets (goal.at.fire_meeting-requires c).After-meeting_at-m;
      markers_bound = (fits, room (goal.at.fire_meeting-requires c).Start, room (goal.at.fire_meeting-requires c).Start);
    }

pub returns : goal.returns
returns c =
    let x = c.args in
    let l = x.threads.now in
    let ml = x.markers.now in
    let ch = x.ground.now.choices.now in
    let e = c.fire_meeting.result in
    let l' = c.fire_meeting.new.threads in
    let ml' = c.fire_meeting.new.markers in
    let made = subst (λ (m : Meeting). Makes x.ground.now.array.bytes.now x.ground.now.array.trailer ch l ml x.counts m e l' ml') c.meeting_at-m.ensures c.fire_meeting.ensures in
    L.fires l ml x.counts c.args.ground.now.prepared.read c.requires.counts_value.0 x.pair.receiver x.pair.sender c.requires.counts_value.1 c.requires.counts_value.2 c.requires.nobody_value ch e l' ml' made
