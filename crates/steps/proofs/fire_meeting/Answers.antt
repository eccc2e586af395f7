-- The marker and the environments are made, the threads counted; too many threads, or too many markers, and nothing is written; else
-- what is written is what the model leaves.
use Prim.Native.Nat.{ℕ, ◌+◌, ◌≤◌, min}
use native.Mathlib.Omega.{arith}
use mathlib.Core.Path.{◌≡◌, refl, sym, ap, ◌∙◌}
use mathlib.Core.List.{List}
use lib.Dec.{leb}
use lib.ListN.{length}
use borrow.Author.Tests.{leb-true, le-leb}
use mir.Val.{bool_byte}
use Rattle.std.specs.Prelude.{Some}
use Rattle.std.specs.Option.{is_some}
use Rattle.laws.specs.Lists.{put}
use Rattle.model.specs.Calculus.{Config}
use Rattle.model.specs.Numbers as N
use Rattle.model.specs.Memory.{entries_in, words_of, numbers_of, thread_room, marker_room}
use Rattle.records.specs.Record.{array_of}
use Rattle.markers.specs.declared.Entry.{Entry}
use Rattle.lent.proofs.Laws.{too_many, few-enough}
use Rattle.steps.specs.Steps.{marker_for, entries_for, advanced}
use Rattle.steps.proofs.Laws as L
use Rattle.records.specs.declared.Trailer.{Trailer}
use Rattle.lent.specs.declared.Counts.{Counts}
use Rattle.steps.specs.declared.Meeting.{Meeting}
use Rattle.steps.proofs.fire_meeting.Goals as goal
use Rattle.steps.proofs.fire_meeting.Goals.{After-threads_fit, After-markers_fit, Else-not-markers_fit, Else-not-threads_fit, in-Some, in_default}

-- what the step is to leave
abbrev threads-left : List ℕ → Trailer → List ℕ → List ℕ → List ℕ → Counts → Meeting → Config ℕ ℕ
threads-left f t choices l ml counts m = advanced f t choices l counts.threads m (marker_for t l (entries_in counts.markers ml) m)

abbrev entries-left : Trailer → List ℕ → List ℕ → Counts → Meeting → List N.Entry
entries-left t l ml counts m = entries_for t l (entries_in counts.markers ml) m

total-is : (c : After-threads_fit) → let x = c.args in
    let g = x.ground.now in
    c.count_after-total.result ≡ min 257 (length (threads-left g.array.bytes.now g.array.trailer g.choices.now x.threads.now x.markers.now x.counts x.m))
total-is c =
    let x = c.args in
    let g = x.ground.now in
    c.count_after-total.ensures.2
    ∙ ap (λ (k : ℕ). min 257 (length (advanced g.array.bytes.now g.array.trailer g.choices.now x.threads.now x.counts.threads x.m k)))
    c.marker_for-marker.ensures.number

few-threads : (c : Else-not-threads_fit) → let x = c.args in
    let g = x.ground.now in
    let left = threads-left g.array.bytes.now g.array.trailer g.choices.now x.threads.now x.markers.now x.counts x.m in
    (c.count_after-total.result ≡ length left) × (length left ≤ thread_room g.array.trailer.names x.threads.now)
few-threads c =
    let x = c.args in
    let g = x.ground.now in
    let total =
    c.count_after-total.ensures.2
    ∙ ap (λ (k : ℕ). min 257 (length (advanced g.array.bytes.now g.array.trailer g.choices.now x.threads.now x.counts.threads x.m k)))
    c.marker_for-marker.ensures.number in
    few-enough g.array.trailer.names x.threads.now _ _ total (sym c.threads_fit.ensures ∙ c.if-not-threads_fit.false)

pub bind_both-requires : goal.bind_both-requires
bind_both-requires c = record {
  binds = L.binds c.requires.meets c.args.ground.now.prepared.read;
  near_len = (c.requires.markers_bound.1, c.requires.markers_bound.2);
}

-- how many markers are listed then
listed-is : (c : After-markers_fit) → let x = c.args in
    x.counts.markers + c.from.result ≡ length (entries-left x.ground.now.array.trailer x.threads.now x.markers.now x.counts x.m)
listed-is c =
    let x = c.args in
    let e = c.from.ensures ∙ ap bool_byte c.is_some.ensures in
    ap (λ (k : ℕ). x.counts.markers + k) e ∙ sym (L.entries-count x.markers.now x.counts c.requires.markers_bound.0 c.marker_for-marker.ensures)

-- one more fits, where one is to be added
one-more : (c : Else-not-markers_fit) (e : Entry) → c.marker_for-marker.result.added ≡ Some e
    → c.args.counts.markers + 1 ≤ marker_room c.args.markers.now
one-more c e h =
    let is : c.from.result ≡ 1 = c.from.ensures ∙ ap bool_byte (c.is_some.ensures ∙ ap is_some h) in
    let fits = leb-true _ _ (sym c.markers_fit.ensures ∙ c.if-not-markers_fit.false) in
    omega (arith, is, fits)

pub returns-then-not-threads_fit : goal.returns-then-not-threads_fit
returns-then-not-threads_fit c =
    let x = c.args in
    let g = x.ground.now in
    let t = g.array.trailer in
    let l = x.threads.now in
    let ml = x.markers.now in
    let left = threads-left g.array.bytes.now t g.choices.now l ml x.counts x.m in
    let fails = sym c.threads_fit.ensures ∙ c.if-not-threads_fit.true in
    let many = too_many t.names l _ _ (total-is (goal.at.returns-then-not-threads_fit c).After-threads_fit) fails in
    ((L.crowded (array_of g.array.bytes.now t) l ml x.counts left (entries-left t l ml x.counts x.m) many, refl, refl), tt)

pub returns-then-not-markers_fit : goal.returns-then-not-markers_fit
returns-then-not-markers_fit c =
    let x = c.args in
    let g = x.ground.now in
    let t = g.array.trailer in
    let l = x.threads.now in
    let ml = x.markers.now in
    let left = threads-left g.array.bytes.now t g.choices.now l ml x.counts x.m in
    let few = le-leb _ _ (few-threads (goal.at.returns-then-not-markers_fit c).Else-not-threads_fit).1 in
    let fails = sym c.markers_fit.ensures ∙ c.if-not-markers_fit.true in
    let many = ap (λ (k : ℕ). leb k (marker_room ml)) (sym (listed-is (goal.at.returns-then-not-markers_fit c).After-markers_fit)) ∙ fails in
    ((L.unlisted (array_of g.array.bytes.now t) l ml x.counts left (entries-left t l ml x.counts x.m) few many, refl, refl), tt)

pub returns : goal.returns
returns c =
    let x = c.args in
    let g = x.ground.now in
    let t = g.array.trailer in
    let l = x.threads.now in
    let ml = x.markers.now in
    let y = c.marker_for-marker.ensures in
    let fits = c.requires.markers_bound.0 in
    let at = few-threads (goal.at.returns c).Else-not-threads_fit in
    let listed = listed-is (goal.at.returns c).After-markers_fit in
    let left = threads-left g.array.bytes.now t g.choices.now l ml x.counts x.m in
    let few = le-leb _ _ at.1 in
    let most = ap (λ (k : ℕ). leb k (marker_room ml)) (sym listed) ∙ sym c.markers_fit.ensures ∙ c.if-not-markers_fit.false in
    let words =
    c.write_after.ensures
    ∙ ap (λ (k : ℕ). put 0 (words_of (advanced g.array.bytes.now t g.choices.now l x.counts.threads x.m k)) l) y.number in
    let entries : c.match-marker.markers ≡ put 0 (numbers_of (entries-left t l ml x.counts x.m)) ml =
    elim c.match-marker.branch [
      | in-Some w ↦
          w.markers-is ∙ w.add_entry.ensures
          ∙ L.numbers-added ml x.counts fits y _ w.in-Some.is (one-more (goal.at.returns c).Else-not-markers_fit _ w.in-Some.is)
      | in_default w ↦ w.markers-is ∙ L.numbers-kept ml x.counts fits y w.in_default.is
    ] in
    (L.leaves-both (array_of g.array.bytes.now t) l ml x.counts left (entries-left t l ml x.counts x.m) few most _ _ _ words at.0 entries listed, y.number)
