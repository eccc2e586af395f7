use Prim.Native.Nat.{◌<◌}
use mathlib.Core.Path.{◌≡◌, refl, sym, ◌∙◌}
use mathlib.Core.Bool.{true}
use mathlib.Core.List.{[]}
use native.Mathlib.Omega.{arith}
use Rattle.laws.proofs.Search.{and_split}
use Rattle.model.specs.Memory.{is_out}
use Rattle.records.specs.Record.{node_of}
use Rattle.arrays.specs.Agents.{Reads}
use Rattle.senders.specs.Sets.{Askable}
use Rattle.senders.proofs.Laws.{askable}
use Rattle.senders.proofs.Gathering.{gathered_none, gathered-skip, gathered-more, gathered-all, gathered-beside, covers-alike}
use Rattle.senders.proofs.Sets.gather.Goals as goal
use Rattle.senders.proofs.Sets.gather.Goals.{After-node_at}

-- the node is one of at most 1,024
low : (c : After-node_at) → c.loop-i.i < 1024
low c = omega (arith, c.loop-i-test.true, c.requires.given.1.read.formed.few_nodes)

-- its record is that of node i
lies : (c : After-node_at) → let a = c.args.array.now in Reads a.bytes.now a.trailer c.loop-i.i c.node_at.result
lies c = record { below = omega arith; is = c.node_at.ensures }

-- what the lists have of node i, where it sends
sender : (c : After-node_at) → is_out (node_of c.node_at.result) ≡ true
    → let x = c.args in
    Askable x.balances x.rows.now x.loads.now record { number = c.loop-i.i; node = c.node_at.result }
sender c e = askable c.requires.given.1 (lies c) e

pub loop-i-init : goal.loop-i-init
loop-i-init c = record { seen = refl; gathered = rw c.requires.vacant.links (gathered_none _ _ _ _ c.requires.vacant.room) }

pub sends_by-requires-clause-name_bound : goal.sends_by-requires-clause-name_bound
sends_by-requires-clause-name_bound c e =
    let a = sender (goal.at.sends_by-requires-clause-name_bound c).After-node_at e in
    (omega (arith, a.name), a.sent.few)

pub loop-i-preserved-then-not-sends_by : goal.loop-i-preserved-then-not-sends_by
loop-i-preserved-then-not-sends_by c =
    let l = c.loop-i in record {
      seen = l.invariant.seen;
      gathered =
          gathered-skip _ _ _ l.i l.invariant.gathered c.node_at.result c.node_at.ensures (omega arith)
          (low (goal.at.loop-i-preserved-then-not-sends_by c).After-node_at) (sym c.sends_by.ensures ∙ c.if-not-sends_by.true);
    }

pub keep-requires-clause-asked : goal.keep-requires-clause-asked
keep-requires-clause-asked c =
    let n = (goal.at.keep-requires-clause-asked c).After-node_at in
    (lies n, sender n (and_split _ _ (sym c.sends_by.ensures ∙ c.if-not-sends_by.false)).0)

pub loop-i-preserved : goal.loop-i-preserved
loop-i-preserved c =
    let l = c.loop-i in record {
      seen = c.set_of-g.ensures.1;
      gathered =
          rw (c.link.ensures, c.keep.ensures.grown.1)
          (gathered-more _ _ _ l.i l.invariant.gathered c.node_at.result c.node_at.ensures (omega arith)
          (low (goal.at.loop-i-preserved c).After-node_at) c.set_of-g.result c.set_of-g.ensures.0 c.keep.ensures.grown.0
          (sym c.sends_by.ensures ∙ c.if-not-sends_by.false) (covers-alike _ _ c.from-rule.ensures (c.keep.ensures.covers [])));
    }

pub returns : goal.returns
returns c =
    let l = c.loop-i in
    let e : l.i ≡ c.args.array.now.trailer.nodes = omega arith in
    gathered-beside (gathered-all _ _ _ (rw e at l.invariant.gathered))
