-- What a search for the first number that fails needs of the test that it is lent.
use Rattle.std.specs.Prelude.{ℕ, ◌<◌, ◌≡◌, Bool}
use Rattle.laws.specs.Search.{first, clear}
use Rattle.model.specs.Formed.{refuse}

-- each answer below n, where all numbers before it passed, is that of test p
abbrev pub Tells : (ℕ → Bool → Type 0) → ℕ → ℕ → (ℕ → Bool) → Type 0
Tells answer n number p = (i : ℕ) → i < n → first i (λ j. refuse number j (p j)) ≡ clear → (b : Bool) → answer i b → b ≡ p i
