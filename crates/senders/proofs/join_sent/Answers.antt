use mathlib.Core.Path.{◌≡◌, sym, ap, ◌∙◌}
use mathlib.Core.Bool.{true}
use lib.ListN.{get_or}
use borrow.Author.Count.{below_more}
use Rattle.marks.specs.Marks.{inside}
use Rattle.marks.proofs.Laws.{join-adds}
use Rattle.records.specs.declared.Record.{Record}
use Rattle.senders.specs.Sets.{sent_row}
use Rattle.senders.proofs.Laws.{rows_same, rows-trans, rows-joined, rows-keep}
use native.Mathlib.Omega.{arith}
use Rattle.senders.proofs.join_sent.Goals as goal
use Rattle.senders.proofs.join_sent.Goals.{After-arg_at}

-- argument m, as it was read
arg : (c : After-arg_at) → c.arg_at.result ≡ get_or c.args.q.node.args c.loop-m.m 0
arg c = c.arg_at.ensures.0 ∙ ap (λ (r : Record). get_or r.args c.loop-m.m 0) (sym c.requires.2.is)

pub loop-m-init : goal.loop-m-init
loop-m-init c = record { size = omega arith; grow = rows_same _; kept = λ j h. absurd (omega arith) }

pub join-requires : goal.join-requires
join-requires c =
    let sent = c.requires.1 in
    let t = c.loop-m-test.true in
    (rw c.sent_row-row.ensures (omega (arith, sent.few, t)), rw (arg (goal.at.join-requires c).After-arg_at) (sent.args c.loop-m.m t))

pub loop-m-preserved : goal.loop-m-preserved
loop-m-preserved c =
    let x = c.args in
    let l = c.loop-m in
    let j = rw (c.sent_row-row.ensures, arg (goal.at.loop-m-preserved c).After-arg_at) at c.join.ensures in record {
      size = omega (arith, j.size);
      grow = rows-trans l.invariant.grow (rows-joined j);
      kept =
          below_more (λ i. inside x.rows.now (get_or x.q.node.args i 0) c.join.new.one (sent_row x.g i) ≡ true) l.m
          (λ i h. rows-keep _ _ _ (l.invariant.kept i h) (rows-joined j)) (join-adds _ _ _ _ _ j);
    }
