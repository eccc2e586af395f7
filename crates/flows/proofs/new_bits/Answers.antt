use Prim.Native.Nat.{◌+◌, ◌*◌, ◌≤◌}
use mathlib.Core.Path.{◌≡◌, sym, ap, ap₂, ◌∙◌}
use lib.Bits.{bit_and, bit_xor}
use lib.Count.{ones}
use lib.ListN.{get_or}
use native.Mathlib.Omega.{arith}
use Rattle.laws.specs.Search.{sum}
use Rattle.laws.proofs.Search.{sum-zero, sum_step}
use Rattle.flows.proofs.Counted.{fresh, fresh-ones, fresh-few, fresh-rows}
use Rattle.flows.proofs.new_bits.Goals as goal
use Rattle.flows.proofs.new_bits.Goals.{After-u64_at-y}

pub loop-i-init : goal.loop-i-init
loop-i-init c = (omega arith, sym (sum-zero _))

-- the ones of word i that are counted
more : (c : After-u64_at-y) → let x = c.args in let word = get_or x.rows.now c.loop-i.i 0 in
    (ones (bit_xor word (bit_and word c.u64_at-y.result)) ≡ fresh x.table.now x.rows.now c.loop-i.i) × (fresh x.table.now x.rows.now c.loop-i.i ≤ 64)
more c =
    let s = c.args.table.now in
    let rows = c.args.rows.now in
    (fresh-ones s rows c.loop-i.i _ (omega (arith, c.fits-rows c.loop-i.i)) c.u64_at-y.ensures, fresh-few s rows c.loop-i.i)

pub overflow_cast-count : goal.overflow_cast-count
overflow_cast-count c = omega (arith, more c)

pub overflow_add-count : goal.overflow_add-count
overflow_add-count c = omega (arith, more c)

pub loop-i-preserved : goal.loop-i-preserved
loop-i-preserved c =
    let l = c.loop-i in
    let m = more c in
    (omega (arith, m), ap₂ ◌+◌ l.invariant.1 m.0 ∙ sym (sum_step (fresh c.args.table.now c.args.rows.now) l.i))

pub returns : goal.returns
returns c =
    let l = c.loop-i in
    let x = c.args in
    let e : l.i ≡ 4 * x.z.names = omega arith in
    l.invariant.1 ∙ ap (λ n. sum n (fresh x.table.now x.rows.now)) e
    ∙ fresh-rows x.table.now x.rows.now x.z (λ j. omega (arith, c.type_inv.table j))
