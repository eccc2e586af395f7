use Prim.Native.Nat.{◌-◌}
use mathlib.Core.Path.{◌≡◌, sym, ◌∙◌}
use native.Mathlib.Omega.{arith}
use Rattle.arrays.proofs.Agents.{left_below}
use Rattle.pairs.specs.Pairs.{Held}
use Rattle.pairs.proofs.Laws.{agent-p, name-row}
use Rattle.pairs.proofs.ByDifference.{rooms-there, figures-there, breaks-by}
use Rattle.filter.specs.Sieve.{rule_in, setting_in}
use Rattle.filter.proofs.Laws.{given-in}
use Rattle.filter.proofs.Members.{members-begun, members-more, members-done}
use Rattle.filter.proofs.Sieve.members_pass.Goals as goal
use Rattle.filter.proofs.Sieve.members_pass.Goals.{After-node_at}

held : (c : After-node_at) → Held (setting_in c.args.self.now) (record { number = c.loop-next.next - 1; node = c.node_at.result })
held c = record { below = omega (arith, c.loop-next.invariant.0.0, c.if-end-j.false); is = c.node_at.ensures }

pub differences-margins-requires : goal.differences-margins-requires
differences-margins-requires c =
    let g = given-in c.requires.sieves.0 in
    let p = c.requires.receives in
    let half = g.weighed.half in
    record {
      few = (g.lists.many_bounds, g.lists.few);
      half_row = (half _ p.0.below, half _ (left_below g.read p.0 (agent-p g p.0 p.1 p.0)));
    }

pub loop-next-init : goal.loop-next-init
loop-next-init c =
    let s = c.args.self.now in (
      rw (c.from-next.ensures, c.last_link.ensures) (members-begun (rule_in s) (setting_in s) c.args.p c.args.g s.sets.now.links),
      record {
        many_gives = c.differences-margins.ensures.many.0;
        many_rooms = c.differences-margins.ensures.many.1;
        are = c.differences-margins.ensures.are;
      },
    )

pub breaks-requires-clause-rooms : goal.breaks-requires-clause-rooms
breaks-requires-clause-rooms c =
    let p = c.requires.receives in
    rooms-there (given-in c.requires.sieves.0) p.0 p.1 c.loop-next.invariant.1 _ (held (goal.at.breaks-requires-clause-rooms c).After-node_at).below

pub breaks-requires-clause-node_value : goal.breaks-requires-clause-node_value
breaks-requires-clause-node_value c =
    let g = given-in c.requires.sieves.0 in
    let p = c.requires.receives in
    let q = held (goal.at.breaks-requires-clause-node_value c).After-node_at in
    (agent-p g p.0 p.1 q, name-row g p.0, name-row g q)

pub breaks-requires-clause-figures : goal.breaks-requires-clause-figures
breaks-requires-clause-figures c l =
    let p = c.requires.receives in
    let q = held (goal.at.breaks-requires-clause-figures c).After-node_at in
    rw c.number.ensures (figures-there (given-in c.requires.sieves.0) p.0 p.1 c.loop-next.invariant.1 q l (rule_in c.args.self.now))

pub loop-next-preserved : goal.loop-next-preserved
loop-next-preserved c =
    let l = c.loop-next in
    let s = c.args.self.now in
    let p = c.requires.receives in
    let q = held (goal.at.loop-next-preserved c).After-node_at in
    let same = breaks-by (given-in c.requires.sieves.0) p.0 p.1 l.invariant.1 q (rule_in s) in (
      rw c.from-next-in-loop-next.ensures
          (members-more (rule_in s) (setting_in s) c.args.p c.args.g s.sets.now.links l.end l.next (l.next - 1)
          (omega (arith, c.loop-next-test.true)) l.invariant.0 (omega (arith, q.below)) c.node_at.result c.node_at.ensures
          (sym same ∙ sym (rw c.number.ensures at c.breaks.ensures) ∙ c.if-breaks.false)),
      l.invariant.1,
    )

pub returns : goal.returns
returns c e =
    let l = c.loop-next in
    let none : l.next ≡ 0 = omega (arith, c.loop-next-test.false) in
    members-done _ _ _ _ _ l.end (rw none at l.invariant.0)
