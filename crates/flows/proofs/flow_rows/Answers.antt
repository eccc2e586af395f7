use Prim.Native.Nat.{◌*◌}
use mathlib.Core.Path.{◌≡◌, ◌∙◌}
use lib.ListN.{length-set}
use borrow.Author.Count.{below_none}
use Rattle.wire.specs.Numbers.{u64_at}
use Rattle.marks.proofs.Laws.{marked-bytes}
use Rattle.laws.proofs.Lists.{set_more}
use native.Mathlib.Omega.{arith}
use Rattle.flows.proofs.flow_rows.Goals as goal

pub loop-i-init : goal.loop-i-init
loop-i-init c = (omega arith, below_none _)

pub loop-i-preserved : goal.loop-i-preserved
loop-i-preserved c =
    let l = c.loop-i in (
      length-set l.rows _ _ ∙ l.invariant.0,
      set_more (λ k. u64_at c.args.table.now (8 * k)) l.rows l.i c.u64_at.result (omega arith)
          l.invariant.1 c.u64_at.ensures,
    )

pub returns : goal.returns
returns c v o h k =
    let l = c.loop-i in
    let x = c.args in
    let known = c.type_inv.table in
    let e : l.i ≡ 4 * x.z.names = omega arith in
    marked-bytes x.table.now l.rows x.z.names (λ j. omega (arith, known j)) (rw e at l.invariant.1) v o h k
