use Prim.Native.Nat.{ℕ, ◌+◌, ◌*◌, ◌<◌}
use native.Mathlib.Nat.{not-suc-le-zero, le_of_suc-le-suc}
use mathlib.Core.Path.{◌≡◌, refl, ap, ◌∙◌}
use lib.ListN.{length, length-set}
use Rattle.layout.specs.Table.{balance_at, weight_at, table_of}
use Rattle.layout.proofs.Laws.{balance-fits}
use Rattle.wire.proofs.Laws.{u16-small}
use Rattle.records.proofs.Laws.{child-of}
use Rattle.loads.specs.Loads.{entry_index, load_from}
use Rattle.loads.proofs.Laws.{above-set, row-set, half-child, filled_row}
use native.Mathlib.Omega.{arith}
use Rattle.loads.proofs.fill_node.Goals as goal
use Rattle.loads.proofs.fill_node.Goals.{At-loop-k}

-- a number of the table has 16 bits
small : (c : At-loop-k) (at i : ℕ) → weight_at c.args.table.now.bytes.now at i < 65536
small c at i = u16-small c.args.table.now.bytes.now c.args.table.now.are_bytes _

-- the balance ends in the table
inside : (c : At-loop-k) → let x = c.args in c.loop-k.k < x.table.now.sizes.balances
    → balance_at x.table.now.sizes c.loop-k.k + 5 + 2 * x.i < length x.table.now.bytes.now
inside c h =
    let laid = c.requires.formed.1 in
    omega (arith, balance-fits c.args.table.now.sizes c.loop-k.k h, laid.fills, laid.nodes, c.requires.filled.0)

pub loop-k-init : goal.loop-k-init
loop-k-init c = (omega arith, λ j k l h. refl, λ k h. absurd (not-suc-le-zero h))

pub overflow_add-balance_at : goal.overflow_add-balance_at
overflow_add-balance_at c = omega (arith, inside (goal.at.overflow_add-balance_at c).At-loop-k c.loop-k-test.true)

pub overflow_add-balance_at-in-loop-k : goal.overflow_add-balance_at-in-loop-k
overflow_add-balance_at-in-loop-k c = omega (arith, inside (goal.at.overflow_add-balance_at-in-loop-k c).At-loop-k c.loop-k-test.true)

pub u16_at-weight-requires : goal.u16_at-weight-requires
u16_at-weight-requires c = omega (arith, inside (goal.at.u16_at-weight-requires c).At-loop-k c.loop-k-test.true)

pub overflow_cast-weight : goal.overflow_cast-weight
overflow_cast-weight c = rw c.u16_at-weight.ensures (omega (arith, small (goal.at.overflow_cast-weight c).At-loop-k c.balance_at.result c.args.i))

pub load_of-load-requires : goal.load_of-load-requires
load_of-load-requires c =
    half-child c.args.array.now.bytes.now c.args.array.now.trailer c.requires.formed.0 c.args.i c.requires.filled.0 c.node_at-r.result c.node_at-r.ensures
    (table_of c.args.table.now.bytes.now c.args.table.now.sizes)
    c.requires.formed.1.few_balances c.args.loads.now c.loop-k.loads c.requires.filled.1 c.loop-k.invariant.1 c.loop-k.invariant.0 c.loop-k.k
    c.loop-k-test.true (λ j. le_of_suc-le-suc (small (goal.at.load_of-load-requires c).At-loop-k _ j))

pub loop-k-preserved : goal.loop-k-preserved
loop-k-preserved c =
    let x = c.args in
    let weight : ℕ → ℕ = λ m. weight_at x.table.now.bytes.now (balance_at x.table.now.sizes m) x.i in
    let here = c.u16_at-weight.ensures ∙ ap (λ (n : ℕ). weight_at x.table.now.bytes.now n x.i) c.balance_at.ensures in
    let few : c.loop-k.k < 24 = omega arith in
    let fits : entry_index x.i c.loop-k.k < length c.loop-k.loads = omega arith in
    let v = c.load_of-load.result in
    rw c.entry.ensures (
      length-set c.loop-k.loads _ _ ∙ c.loop-k.invariant.0,
      above-set x.loads.now c.loop-k.loads x.i c.loop-k.k few fits c.loop-k.invariant.1 v,
      row-set x.loads.now c.loop-k.loads x.i c.loop-k.k few fits c.loop-k.invariant.1 v c.node_at-r.result weight
          (λ n g. (child-of x.array.now.bytes.now x.array.now.trailer x.i c.node_at-r.result c.requires.filled.0 c.node_at-r.ensures c.requires.formed.0.children n g).0)
          (c.load_of-load.ensures ∙ ap (load_from c.loop-k.loads c.node_at-r.result c.loop-k.k) here) c.loop-k.invariant.2,
    )

pub returns : goal.returns
returns c =
    let l = c.loop-k in
    let e : l.k ≡ c.args.table.now.sizes.balances = omega arith in
    filled_row c.args.array.now.bytes.now c.args.array.now.trailer c.requires.formed.0 c.args.i c.requires.filled.0 c.node_at-r.result c.node_at-r.ensures
    (table_of c.args.table.now.bytes.now c.args.table.now.sizes) c.requires.formed.1.few_balances c.args.loads.now l.loads c.requires.filled.1 l.invariant.1 (rw e at l.invariant.2)
