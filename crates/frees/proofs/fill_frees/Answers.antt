use Rattle.std.proofs.Common.{◌-◌, ◌∙◌, arith}
use Rattle.model.proofs.Tree.{child-above}
use Rattle.records.specs.ArrayFile.{array_in}
use Rattle.records.proofs.Laws.{node-read}
use Rattle.frees.proofs.Laws.{free-row}
use Rattle.frees.proofs.fill_frees.Goals as goal

pub loop-i-init : goal.loop-i-init
loop-i-init c = (c.requires.1, λ i v l h. absurd (omega arith))

pub fill_row-requires : goal.fill_row-requires
fill_row-requires c =
    let a = c.args.array.now in
    let ok = c.requires.0.formed in
    let few = ok.few_nodes in
    let l = c.loop-i in
    let i = l.i - 1 in
    let n = node-read a.bytes.now a.trailer i c.node_at.result (omega arith) c.node_at.ensures in (
      rw c.node_at.ensures (a.are_bytes _),
      omega arith,
      λ k h.
          let f = child-above (array_in a) ok.children i k (rw n h) in
          (f.0, omega (arith, f.1)),
    )

pub loop-i-preserved : goal.loop-i-preserved
loop-i-preserved c =
    let a = c.args.array.now in
    let ok = c.requires.0.formed in
    let l = c.loop-i in
    let i = l.i - 1 in
    let n = node-read a.bytes.now a.trailer i c.node_at.result (omega arith) c.node_at.ensures in (
      c.fill_row.auto.frees ∙ l.invariant.0,
      free-row (array_in a) ok.children i (omega arith) l.frees c.fill_row.new.frees (λ j v h. l.invariant.1 j v (omega arith)) (rw n c.fill_row.ensures),
    )

pub returns : goal.returns
returns c = let l = c.loop-i in λ i v. l.invariant.1 i v (omega arith)
