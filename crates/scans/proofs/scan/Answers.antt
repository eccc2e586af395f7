use Rattle.std.proofs.Common.{◌≡◌, ℕ, replicate, refl, sym, ap, ◌∙◌, arith}
use mathlib.Core.Bool.{false≢true}
use Rattle.scans.proofs.Laws.{scanned-start, scanned-ready, scanned-step, scanned-clear}
use Rattle.scans.proofs.scan.Goals as goal

pub loop-i-init : goal.loop-i-init
loop-i-init g c =
    let a = c.args.array.now in
    scanned-start _ a.bytes.now a.trailer (ap (λ (n : ℕ). replicate n 0) c.requires.2) refl refl

pub whole_as_slice-pass_node : goal.whole_as_slice-pass_node
whole_as_slice-pass_node g c = omega arith

pub pass_node-requires : goal.pass_node-requires
pass_node-requires g c =
    let a = c.args.array.now in
    let l = c.loop-i in (
      scanned-ready _ a.bytes.now a.trailer l.reach l.parents l.binders l.i l.invariant c.requires.0 a.few_nodes c.loop-i-test.true,
      rw c.node_at.ensures (a.are_bytes _),
    )

pub returns-then-not-i-parents : goal.returns-then-not-i-parents
returns-then-not-i-parents g c e = absurd (false≢true e)

pub returns-then-not-pass_node : goal.returns-then-not-pass_node
returns-then-not-pass_node g c e = absurd (false≢true e)

pub loop-i-preserved : goal.loop-i-preserved
loop-i-preserved g c =
    let a = c.args.array.now in
    let l = c.loop-i in
    let fit = rw c.node_at.ensures at (c.pass_node.ensures (c.if-not-pass_node.false)) in
    scanned-step _ a.bytes.now a.trailer l.reach l.parents l.binders l.i l.invariant c.requires.0 c.loop-i-test.true (c.if-not-i-parents.false)
    c.pass_node.new.reach c.pass_node.new.parents c.pass_node.new.binders fit c.pass_node.auto.reach c.pass_node.auto.parents c.pass_node.auto.binders

pub returns : goal.returns
returns g c e =
    let a = c.args.array.now in
    let l = c.loop-i in
    let all : l.i ≡ a.trailer.nodes = omega arith in
    scanned-clear _ a.bytes.now a.trailer l.reach l.parents l.binders (rw all at l.invariant) c.requires.0 a.are_bytes a.few_names (sym c.bound_once.ensures ∙ e)
