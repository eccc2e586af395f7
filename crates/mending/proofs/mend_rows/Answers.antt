use mathlib.Core.Path.{◌≡◌, sym, ◌∙◌}
use lib.ListN.{length}
use native.Mathlib.Omega.{arith}
use Rattle.pairs.proofs.Beside.{given-beside}
use Rattle.mending.proofs.Passing.{between_more, between-after, pass-weight, finish}
use Rattle.mending.proofs.mend_rows.Goals as goal

pub loop-none-smaller : goal.loop-none-smaller
loop-none-smaller c =
    let l = c.loop-none in
    let many : length l.so_far.rows ≡ 1024 = omega (arith, l.invariant.between.size, c.first_pass.ensures.grew.size) in
    pass-weight (given-beside c.args.w.now l.so_far.rows many) c.pass.ensures.grew l.so_far.names (sym c.contained.ensures ∙ c.loop-none-test.true)

pub loop-none-preserved : goal.loop-none-preserved
loop-none-preserved c =
    let a = c.pass.ensures in
    record { between = between_more c.loop-none.invariant.between a.grew; clean = a.clean; names = a.grew.marks }

pub returns : goal.returns
returns c =
    let l = c.loop-none.invariant in
    let x = c.args in
    finish (given-beside x.w.now x.so_far.now.rows (omega arith)) (between-after c.first_pass.ensures.grew l.between) _ l.names l.clean
    (sym c.contained.ensures ∙ c.loop-none-test.false)
