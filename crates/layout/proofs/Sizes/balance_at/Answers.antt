-- The products are the definition's, and small, so that nothing wraps.
use Prim.Native.Nat.{ℕ, ◌*◌, ◌≤◌}
use mathlib.Core.Path.{◌≡◌, ap}
use Rattle.layout.specs.Table.{balance_size}
use Rattle.layout.proofs.Laws.{balances-small}
use native.Mathlib.Omega.{arith}
use Rattle.layout.proofs.Sizes.balance_at.Goals as goal
use Rattle.layout.proofs.Sizes.balance_at.Goals.{After-balance_size, After-row_size}

rows : (c : After-row_size) → let z = c.args.self in c.row_size.result * z.names ≡ 32 * z.names
rows c = ap (λ (n : ℕ). n * c.args.self.names) c.row_size.ensures

balances : (c : After-balance_size) → let x = c.args in
    (x.k * c.balance_size.result ≡ x.k * balance_size x.self) × (x.k * balance_size x.self ≤ 24 * 2052)
balances c =
    (ap (λ (n : ℕ). c.args.k * n) c.balance_size.ensures, balances-small c.args.self c.args.k c.requires.0 c.requires.2)

pub overflow_mul-result : goal.overflow_mul-result
overflow_mul-result c = let e = rows (goal.at.overflow_mul-result c).After-row_size in record { fits = omega arith }

pub overflow_mul-result-2 : goal.overflow_mul-result-2
overflow_mul-result-2 c = let b = balances (goal.at.overflow_mul-result-2 c).After-balance_size in record { fits = omega arith }

pub overflow_add-result : goal.overflow_add-result
overflow_add-result c =
    let e = rows (goal.at.overflow_add-result c).After-row_size in
    let b = balances (goal.at.overflow_add-result c).After-balance_size in
    record { fits = omega arith }

pub returns : goal.returns
returns c =
    let e = rows (goal.at.returns c).After-row_size in
    let b = balances (goal.at.returns c).After-balance_size in
    omega arith
