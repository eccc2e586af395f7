-- All balances together are small, so nothing wraps.
use Rattle.layout.proofs.Laws.{balances-small}
use native.Mathlib.Omega.{arith}
use Rattle.layout.proofs.Sizes.claim_at.Goals as goal

pub overflow_add-result : goal.overflow_add-result
overflow_add-result c =
    let l = balances-small c.args.self c.args.self.balances c.requires.0 c.requires.2 in
    record { fits = omega arith }
