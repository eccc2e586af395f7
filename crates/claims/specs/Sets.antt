-- The first claim of a set.
use Rattle.std.specs.Prelude.{ℕ, ◌≤◌, ◌≡◌, true, false}
use Rattle.model.specs.Rules.{Table, together, Each}

-- claim d is of claim c's set, and none before it is
pub record FirstOf (t : Table) (c d : ℕ) : Type 0 where
  pub below : d ≤ c
  pub of : together t c d ≡ true
  pub earlier : Each d (λ e. together t c e ≡ false)
