use Prim.Native.Nat.{ℕ}
use native.Mathlib.Nat.{not-suc-le-zero}
use mathlib.Core.Path.{◌≡◌, sym, ap, ◌∙◌}
use mathlib.Core.Bool.{not}
use lib.ListN.{length}
use native.Mathlib.Omega.{arith}
use borrow.Author.Rules.{rules}
use Rattle.laws.specs.Search.{every}
use Rattle.laws.proofs.Search.{every-zero, every-pass, false-every}
use Rattle.model.specs.Memory.{entries_in, unlike}
use Rattle.markers.specs.Markers.{slot_of, listed}
use Rattle.markers.proofs.Laws.{seen_more, unlike-listed}
use Rattle.markers.proofs.entries_unlike.Goals as goal
use Rattle.markers.proofs.entries_unlike.Goals.{After-is_listed}

-- what the search answers for entry k is what the definition asks of it
tested :
    (c : After-is_listed)
    → let x = c.args in
    unlike (entries_in x.count x.markers.now) c.loop-k.k ≡ not c.is_listed.result
tested c =
    let x = c.args in
    let s = x.markers.now in
    unlike-listed s c.loop-k.k x.count (omega arith)
    ∙ ap not (ap (listed s c.loop-k.k) (sym c.entry_at-e.ensures) ∙ sym c.is_listed.ensures)

pub loop-k-init : goal.loop-k-init
loop-k-init c = (λ j h. absurd (not-suc-le-zero h), every-zero _)

pub is_listed-requires : goal.is_listed-requires
is_listed-requires c =
    let l = c.loop-k in
    let slot = c.slot_of-slot.ensures in record {
      seen_len = (search rules, slot.1, slot.0);
      k_in_bounds = (omega arith, l.invariant.0);
    }

pub returns-then-is_listed : goal.returns-then-is_listed
returns-then-is_listed c =
    let x = c.args in
    let k = c.loop-k.k in
    sym (false-every x.count (unlike (entries_in x.count x.markers.now)) k (omega arith) (tested (goal.at.returns-then-is_listed c).After-is_listed ∙ ap not c.if-is_listed.true))

pub loop-k-preserved : goal.loop-k-preserved
loop-k-preserved c =
    let x = c.args in
    let s = c.mark_if.ensures in
    let place = c.slot_of-slot.ensures.0 ∙ ap slot_of c.entry_at-e.ensures in
    let new = tested (goal.at.loop-k-preserved c).After-is_listed ∙ ap not c.if-is_listed.false in
    let size : length c.loop-k.seen ≡ 4096 = search rules in (
      rw s (seen_more c.loop-k.seen x.markers.now c.loop-k.k c.loop-k.invariant.0 c.slot_of-slot.result size c.slot_of-slot.ensures.1 place),
      every-pass (unlike (entries_in x.count x.markers.now)) c.loop-k.k c.loop-k.invariant.1 new,
    )

pub returns : goal.returns
returns c =
    let x = c.args in
    let l = c.loop-k in
    let e : l.k ≡ x.count = omega arith in
    sym (rw e at l.invariant.1)

pub returns-then-count-eq0 : goal.returns-then-count-eq0
returns-then-count-eq0 c =
    let x = c.args in
    sym (ap (λ (n : ℕ). every n (unlike (entries_in x.count x.markers.now))) c.if-count-eq0.true ∙ every-zero _)
