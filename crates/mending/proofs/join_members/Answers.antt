use Prim.Native.Nat.{ℕ, ◌+◌, ◌-◌, ◌≤◌, ◌<◌}
use lib.ListN.{get_or}
use mathlib.Core.Path.{◌≡◌, subst}
use mathlib.Core.Bool.{Bool, true}
use native.Mathlib.Omega.{arith}
use Rattle.model.specs.Memory.{is_out}
use Rattle.records.specs.Record.{node_of}
use Rattle.arrays.proofs.Agents.{left_below}
use Rattle.pairs.specs.declared.Side.{Side}
use Rattle.pairs.specs.Pairs.{Given, Held, DifferencesOf}
use Rattle.pairs.specs.Weighing.{beside}
use Rattle.pairs.proofs.Laws.{agent-p, name-row}
use Rattle.pairs.proofs.Beside.{given-beside}
use Rattle.pairs.proofs.Search.{side_at}
use Rattle.pairs.proofs.ByDifference.{rooms-there, live-by}
use Rattle.senders.proofs.Laws.{askable}
use Rattle.mending.specs.Growing.{SentIf}
use Rattle.mending.proofs.Noting.{gained-same, gained-more, gained-trans, sent-here, sent-more}
use Rattle.mending.proofs.Along.{sends-at, AtLink, links-begun, link-node, link-sends, link-down, links-more, links-done}
use Rattle.mending.proofs.join_members.Goals as goal
use Rattle.mending.proofs.join_members.Goals.{Start, In-loop-next, After-differences-margins, After-node_at, After-join_pair}
use Rattle.mending.proofs.join_members.Invariants.{Seen}

given : (c : Start) → Given (beside c.args.w.now c.args.rows.now)
given c = given-beside c.args.w.now c.args.rows.now (omega arith)

-- a sender of the set
at : (c : In-loop-next) → let x = c.args in let S = beside x.w.now x.rows.now in
    AtLink S x.g x.sets.now.links (Seen S x.p c.loop-next.sent) (c.loop-next.next - 1 + 1)
at c =
    let x = c.args in
    let S = beside x.w.now x.rows.now in
    let up : c.loop-next.next ≡ c.loop-next.next - 1 + 1 = omega (arith, c.loop-next-test.true) in
    subst (λ (n : ℕ). AtLink S x.g x.sets.now.links (Seen S x.p c.loop-next.sent) n) up c.loop-next.invariant.seen

below : (c : In-loop-next) → c.loop-next.next - 1 < c.args.w.now.array.trailer.nodes
below c = let x = c.args in link-node (beside x.w.now x.rows.now) x.g x.sets.now.links _ _ (at c) c.requires.links

down : (c : In-loop-next) → get_or c.args.sets.now.links (c.loop-next.next - 1) 0 ≤ c.loop-next.next - 1
down c = let x = c.args in link-down (beside x.w.now x.rows.now) x.g x.sets.now.links _ _ (at c) c.requires.links

-- and its record
abbrev sender : After-node_at → Side
sender c = record { number = c.loop-next.next - 1; node = c.node_at.result }

differ : (c : After-differences-margins) → let x = c.args in let m = c.differences-margins.result in
    DifferencesOf (beside x.w.now x.rows.now) x.p m.gives m.rooms
differ c = let d = c.differences-margins.ensures in record { many_gives = d.many.0; many_rooms = d.many.1; are = d.are }

pub differences-margins-requires : goal.differences-margins-requires
differences-margins-requires c =
    let g = given (goal.at.differences-margins-requires c).Start in
    let hp = c.requires.receiver.0.held in
    let half = g.weighed.half in
    record {
      few = (g.lists.many_bounds, g.lists.few);
      half_row = (half _ hp.below, half _ (left_below g.read hp (agent-p g hp c.requires.receiver.0.receives hp)));
    }

pub loop-next-init : goal.loop-next-init
loop-next-init c =
    let x = c.args in record {
      gained = gained-same _ x.p _;
      seen = rw (c.from-next.ensures, c.last_link.ensures) (links-begun _ x.g x.sets.now.links _);
    }

pub node_at-requires : goal.node_at-requires
node_at-requires c = below (goal.at.node_at-requires c).In-loop-next

pub join_pair-requires-clause-sent_rows : goal.join_pair-requires-clause-sent_rows
join_pair-requires-clause-sent_rows c =
    let x = c.args in
    let S = beside x.w.now x.rows.now in
    let at-goal = goal.at.join_pair-requires-clause-sent_rows c in
    let i = at-goal.In-loop-next in
    let hq : Held S (sender at-goal.After-node_at) = record { below = below i; is = c.node_at.ensures } in
    let sends : is_out (node_of c.node_at.result) ≡ true =
    rw c.node_at.ensures (link-sends S x.g x.sets.now.links _ _ (at i) c.requires.links) in
    ((askable (given at-goal.Start) hq sends).sent, hq)

pub join_pair-requires-clause-rooms : goal.join_pair-requires-clause-rooms
join_pair-requires-clause-rooms c =
    let x = c.args in
    let at-goal = goal.at.join_pair-requires-clause-rooms c in
    let i = at-goal.In-loop-next in
    let g = given at-goal.Start in
    let hp = c.requires.receiver.0.held in
    let r = c.requires.receiver.0.receives in
    let hq : Held (beside x.w.now x.rows.now) (sender at-goal.After-node_at) = record { below = below i; is = c.node_at.ensures } in
    (rooms-there g hp r (differ at-goal.After-differences-margins) _ (below i), agent-p g hp r hq, name-row g hp, name-row g hq)

pub loop-next-smaller : goal.loop-next-smaller
loop-next-smaller c = omega (arith, c.from-next-in-loop-next.ensures, down (goal.at.loop-next-smaller c).In-loop-next, c.loop-next-test.true)

pub loop-next-preserved : goal.loop-next-preserved
loop-next-preserved c =
    let x = c.args in
    let S = beside x.w.now x.rows.now in
    let at-goal = goal.at.loop-next-preserved c in
    let i = at-goal.In-loop-next in
    let g = given at-goal.Start in
    let hp = c.requires.receiver.0.held in
    let r = c.requires.receiver.0.receives in
    let j = c.loop-next.next - 1 in
    let hq : Held S (sender at-goal.After-node_at) = record { below = below i; is = c.node_at.ensures } in
    let sent' = c.join_pair.new.sent in
    let e = subst (λ (b : Bool). SentIf b x.rows.now c.node_at.result c.loop-next.sent sent')
    (live-by g hp r (differ at-goal.After-differences-margins) hq) c.join_pair.ensures in
    let here = sent-here g hp r hq e in record {
      gained = gained-trans S x.p c.loop-next.invariant.gained (gained-more S x.p hq e);
      seen =
          rw c.from-next-in-loop-next.ensures
          (links-more S _ _ _ (Seen S x.p sent') (λ y. sent-more S x.p (side_at S y) e) j (at i)
          (sends-at S x.p sent' j c.node_at.result c.node_at.ensures here));
    }

pub returns-clause-sends : goal.returns-clause-sends
returns-clause-sends c =
    let l = c.loop-next in
    let x = c.args in
    let S = beside x.w.now x.rows.now in
    let e : l.next ≡ 0 = omega (arith, c.loop-next-test.false) in
    links-done S x.g x.sets.now.links _ (subst (λ (n : ℕ). AtLink S x.g x.sets.now.links (Seen S x.p l.sent) n) e l.invariant.seen)
