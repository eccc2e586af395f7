use Rattle.std.proofs.Common.{◌≡◌, ◌<◌, refl, sym, ◌∙◌, arith}
use Rattle.laws.proofs.Search.{any-zero}
use Rattle.marks.proofs.Laws.{marked-none}
use Rattle.model.specs.Tree.{is_new}
use Rattle.frees.proofs.Laws.{opened-more}
use Rattle.frees.proofs.opened.Goals as goal
use Rattle.frees.proofs.opened.Goals.{After-node_at-r}

-- the name that was read is a byte
name-small : (c : After-node_at-r) → c.node_at-r.result.name < 256
name-small c = rw c.node_at-r.ensures (c.args.array.now.are_bytes _)

pub loop-i-init : goal.loop-i-init
loop-i-init c = (refl, λ o. marked-none 4 0 o ∙ sym (any-zero _))

pub mark_if-requires : goal.mark_if-requires
mark_if-requires c =
    let size = c.loop-i.invariant.0 in
    let name = name-small (goal.at.mark_if-requires c).After-node_at-r in
    omega arith

pub loop-i-preserved : goal.loop-i-preserved
loop-i-preserved c =
    let a = c.args.array.now in
    let inv = c.loop-i.invariant in (
      c.mark_if.auto.row ∙ inv.0,
      rw (c.mark_if.ensures, c.is_new.ensures)
          (opened-more a.bytes.now a.trailer c.loop-i.row c.loop-i.i c.node_at-r.result inv.0 (name-small (goal.at.loop-i-preserved c).After-node_at-r) (omega arith) c.node_at-r.ensures inv.1),
    )

pub returns : goal.returns
unfolding is_new
returns c o =
    let e : c.loop-i.i ≡ c.args.array.now.trailer.nodes = omega arith in
    rw e at (c.loop-i.invariant.1 o)
