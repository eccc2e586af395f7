-- The tests in the definition's order; the product of the balances and their size is small.
use Rattle.layout.specs.Table.{parts_fit}
use Rattle.layout.proofs.Laws.{balances-small}
use native.Mathlib.Omega.{arith}
use Rattle.tables.proofs.parts_fit.Goals as goal

pub overflow_add-result : goal.overflow_add-result
overflow_add-result c =
    let small = balances-small c.args.z c.args.z.balances c.requires.nodes_bound.0 c.requires.nodes_bound.2 in
    record { fits = omega arith }

pub returns : goal.returns
unfolding parts_fit
returns c =
    rw (
      c.u32_at.ensures,
      c.u32_at-2.ensures,
      c.balance_at.ensures,
      c.u32_at-3.ensures,
      c.claim_at.ensures,
      c.claim_at-2.ensures,
    )
