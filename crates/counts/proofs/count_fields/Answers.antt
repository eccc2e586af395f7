use Rattle.std.proofs.Common.{◌≡◌, replicate, arith}
use Rattle.model.specs.Formed.{children, fields_to}
use Rattle.records.specs.Record.{record_of}
use Rattle.counts.proofs.Laws.{counted_none, counted-more, counted-below, zeros-below, children-le, adds, counted-all}
use Rattle.counts.proofs.count_fields.Goals as goal

pub loop-j-init : goal.loop-j-init
loop-j-init c = let a = c.args.array.now in counted_none (replicate 1024 0) (adds children a.bytes.now a.trailer)

pub count_children-requires : goal.count_children-requires
count_children-requires c =
    let a = c.args.array.now in
    let at = c.loop-j in
    counted-below (replicate 1024 0) at.table (adds children a.bytes.now a.trailer) at.j at.invariant 1 2 65000 (zeros-below 1024)
    (λ k. children-le (record_of a.bytes.now a.trailer k)) (omega (arith, a.few_nodes))

pub loop-j-preserved : goal.loop-j-preserved
loop-j-preserved c =
    let a = c.args.array.now in
    let at = c.loop-j in
    let grown = rw c.node_at.ensures at c.count_children.ensures in
    counted-more (replicate 1024 0) at.table (adds children a.bytes.now a.trailer) at.j at.invariant c.count_children.new.table c.count_children.auto.table grown

pub returns : goal.returns
unfolding fields_to
returns c =
    let a = c.args.array.now in
    let at = c.loop-j in
    let e : at.j ≡ a.trailer.nodes = omega arith in
    counted-all children a.bytes.now a.trailer 1024 at.table (rw e at at.invariant)
