use Rattle.std.proofs.Common.{◌≡◌, ◌+◌, ◌*◌, replicate, arith}
use Rattle.model.specs.Formed.{binds, binders}
use Rattle.records.specs.Record.{record_of}
use Rattle.counts.proofs.Laws.{counted_none, counted-more, counted-below, zeros-below, few-args, binds-le, adds, counted-all}
use Rattle.counts.proofs.count_binders.Goals as goal

pub loop-j-init : goal.loop-j-init
loop-j-init c = let a = c.args.array.now in counted_none (replicate 256 0) (adds binds a.bytes.now a.trailer)

pub count_names-requires : goal.count_names-requires
count_names-requires c =
    let a = c.args.array.now in
    let at = c.loop-j in
    counted-below (replicate 256 0) at.marks (adds binds a.bytes.now a.trailer) at.j at.invariant 1 9 60000 (zeros-below 256)
    (λ k. binds-le (record_of a.bytes.now a.trailer k) (few-args a.bytes.now (a.trailer.start + 16 * k))) (omega (arith, a.few_nodes))

pub loop-j-preserved : goal.loop-j-preserved
loop-j-preserved c =
    let a = c.args.array.now in
    let at = c.loop-j in
    let grown = rw c.node_at.ensures at c.count_names.ensures in
    counted-more (replicate 256 0) at.marks (adds binds a.bytes.now a.trailer) at.j at.invariant c.count_names.new.table c.count_names.auto.table grown

pub returns : goal.returns
unfolding binders
returns c =
    let a = c.args.array.now in
    let at = c.loop-j in
    let e : at.j ≡ a.trailer.nodes = omega arith in
    counted-all binds a.bytes.now a.trailer 256 at.marks (rw e at at.invariant)
