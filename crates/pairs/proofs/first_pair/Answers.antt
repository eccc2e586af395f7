use mathlib.Core.Path.{sym, ◌∙◌, subst}
use Rattle.records.proofs.KindLaws.{receiver-is}
use Rattle.arrays.proofs.Agents.{left_below}
use Rattle.std.specs.Prelude.{Option}
use Rattle.pairs.specs.declared.Place.{Place}
use Rattle.pairs.specs.declared.Side.{Side}
use Rattle.pairs.specs.Pairs.{Held, SmallFigure}
use Rattle.pairs.specs.Weighing.{beside}
use Rattle.pairs.proofs.Beside.{given-beside}
use Rattle.pairs.proofs.Laws.{name-row}
use Rattle.pairs.proofs.ByDifference.{rooms-there, live-by}
use Rattle.pairs.proofs.Search.{AtReceiver, AtSender, begin, nothing-row, row, nowhere, skip-pair}
use Rattle.pairs.proofs.Search.{pair, figure-by, figure-there, next_row, pass, next-pair, found, small-figure}
use native.Mathlib.Omega.{arith}
use Rattle.pairs.proofs.first_pair.Goals as goal
use Rattle.pairs.proofs.first_pair.Goals.{After-node_at, After-node_at-in-sender, Else-count-eq0}

-- a receiver, once its record is read
module _ (c : After-node_at) where
  abbrev receiver : Side
  receiver = record { number = c.receiver.i; node = c.node_at.result }

  held-receiver : let x = c.args in Held (beside x.w.now x.rows.now) receiver
  held-receiver = record { below = c.receiver-test.true; is = c.node_at.ensures }

-- a receiver with figures, before its senders
module _ (c : Else-count-eq0) where
  begun : let x = c.args in let S = beside x.w.now x.rows.now in
      (answer : Option Place) → AtReceiver x.number S answer c.receiver.i
      → AtSender x.number S (record { number = c.receiver.i; node = c.node_at.result }) c.figures-count.result answer 0
  begun answer at = row at (record { below = c.receiver-test.true; is = c.node_at.ensures }) c.figures-count.ensures c.if-count-eq0.false

-- a sender, once its record is read
module _ (c : After-node_at-in-sender) where
  abbrev sender : Side
  sender = record { number = c.sender.j; node = c.node_at-in-sender.result }

  held-sender : let x = c.args in Held (beside x.w.now x.rows.now) sender
  held-sender = record { below = c.sender-test.true; is = c.node_at-in-sender.ensures }

pub receiver-init : goal.receiver-init
receiver-init c =
    begin (given-beside c.args.w.now c.args.rows.now c.told-rows) c.requires.0 c.requires.1

pub receiver-preserved-then-count-eq0 : goal.receiver-preserved-then-count-eq0
receiver-preserved-then-count-eq0 c =
    nothing-row {p = receiver (goal.at.receiver-preserved-then-count-eq0 c).After-node_at} c.receiver.invariant (held-receiver (goal.at.receiver-preserved-then-count-eq0 c).After-node_at)
    (sym c.figures-count.ensures ∙ c.if-count-eq0.true)

pub differences-margins-requires : goal.differences-margins-requires
differences-margins-requires c =
    let w = begun (goal.at.differences-margins-requires c).Else-count-eq0 _ c.receiver.invariant in
    let g = w.receiver.given in
    let half = g.weighed.half in
    record {
      few = (g.lists.many_bounds, g.lists.few);
      half_row = (half _ w.reads.below, half _ (left_below g.read w.reads (receiver-is _ w.receives).0));
    }

pub sender-init : goal.sender-init
sender-init c = (
  begun (goal.at.sender-init c).Else-count-eq0 _ c.receiver.invariant,
  record {
    many_gives = c.differences-margins.ensures.many.0;
    many_rooms = c.differences-margins.ensures.many.1;
    are = c.differences-margins.ensures.are;
  },
)

pub live-requires : goal.live-requires
live-requires c =
    let w = c.sender.invariant.0 in
    let g = w.receiver.given in
    let q = held-sender (goal.at.live-requires c).After-node_at-in-sender in record {
      rooms = rooms-there g w.reads w.receives c.sender.invariant.1 _ q.below;
      node_value = ((receiver-is _ w.receives).0, name-row g w.reads, name-row g q);
    }

pub sender-preserved-then-not-live : goal.sender-preserved-then-not-live
sender-preserved-then-not-live c =
    let w = c.sender.invariant.0 in
    let d = c.sender.invariant.1 in
    let q = held-sender (goal.at.sender-preserved-then-not-live c).After-node_at-in-sender in (
      skip-pair {q = sender (goal.at.sender-preserved-then-not-live c).After-node_at-in-sender} w q
          (sym (live-by w.receiver.given w.reads w.receives d q) ∙ sym c.live.ensures ∙ c.if-not-live.true),
      d,
    )

pub balance-init : goal.balance-init
balance-init c =
    let w = c.sender.invariant.0 in
    let d = c.sender.invariant.1 in
    let q = held-sender (goal.at.balance-init c).After-node_at-in-sender in (
      pair w q (sym (live-by w.receiver.given w.reads w.receives d q) ∙ sym c.live.ensures ∙ c.if-not-live.false),
      d,
    )

pub figure_holds-requires : goal.figure_holds-requires
figure_holds-requires c =
    let b = c.balance.invariant in
    let f = figure-there b.0 b.1 c.balance-test.true in
    rw (c.from-rule.ensures) f

pub balance-preserved : goal.balance-preserved
balance-preserved c =
    let b = c.balance.invariant in
    let low = c.balance-test.true in
    (pass b.0 low (sym (figure-by b.0 b.1 low) ∙ sym (rw c.from-rule.ensures at c.figure_holds.ensures) ∙ c.if-not-figure_holds.false), b.1)

pub sender-preserved : goal.sender-preserved
sender-preserved c = (next-pair c.balance.invariant.0 (omega arith), c.balance.invariant.1)

pub receiver-preserved : goal.receiver-preserved
receiver-preserved c = next_row c.sender.invariant.0 (omega arith)

pub returns-after-receiver : goal.returns-after-receiver
returns-after-receiver c =
    let l = c.receiver.invariant in record {
      result_value = nowhere l (omega arith);
      small_figure = subst SmallFigure (sym l.none) tt;
    }

pub returns-then-not-figure_holds : goal.returns-then-not-figure_holds
returns-then-not-figure_holds c =
    let b = c.balance.invariant in
    let low = c.balance-test.true in record {
      result_value = found b.0 low (sym (figure-by b.0 b.1 low) ∙ sym (rw c.from-rule.ensures at c.figure_holds.ensures) ∙ c.if-not-figure_holds.true);
      small_figure = small-figure b.0 low;
    }
