use Rattle.std.proofs.Common.{◌+◌, ◌*◌, ap, ◌∙◌, length, arith}
use Rattle.records.specs.ArrayFile.{array_in}
use Rattle.model.proofs.Tree.{child-above}
use Rattle.records.proofs.Laws.{node-read}
use Rattle.scopes.proofs.Table.{filled-start, filled-step, filled-all}
use Rattle.scopes.proofs.fill_scopes.Goals as goal

pub loop-j-init : goal.loop-j-init
loop-j-init c =
    let p = c.requires.is_tree in
    let none = c.requires.no_marks in
    (ap length none, rw none (filled-start (array_in c.args.array.now) p.0 p.1 4096))

pub pass_children-requires : goal.pass_children-requires
pass_children-requires c =
    let a = c.args.array.now in
    let l = c.loop-j in
    let n = node-read a.bytes.now a.trailer l.j c.node_at.result (omega arith) c.node_at.ensures in
    let known = a.are_bytes (a.trailer.start + 16 * l.j + 6) in record {
      name_bound = rw c.node_at.ensures (omega (arith, known));
      by_index = λ k h.
          let f = child-above (array_in a) c.requires.is_tree.0 l.j k (rw n h) in
          (f.0, omega (arith, a.few_nodes));
    }

pub loop-j-preserved : goal.loop-j-preserved
loop-j-preserved c =
    let a = c.args.array.now in
    let p = c.requires.is_tree in
    let l = c.loop-j in
    let n = node-read a.bytes.now a.trailer l.j c.node_at.result (omega arith) c.node_at.ensures in (
      c.pass_children.auto.reach ∙ l.invariant.0,
      filled-step (array_in a) p.0 p.1 l.reach c.pass_children.new.reach l.j (omega arith) (rw n c.pass_children.ensures) l.invariant.1,
    )

pub returns : goal.returns
returns c i v h k =
    let p = c.requires.is_tree in
    let l = c.loop-j in
    filled-all (array_in c.args.array.now) p.0 p.1 l.reach l.j (omega arith) l.invariant.1 i v h k
