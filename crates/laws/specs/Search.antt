-- Searches for the first failure: every refusal and every rule of 01 is one, and so is their order.
use Rattle.std.specs.Prelude.{ℕ, zero, suc, ◌+◌, min, Bool, true, false, cond, ◌&&◌, ◌||◌}

-- Nothing failed, or the first failure.
pub data Found (A : Type 0) : Type 0 where
  clear : Found A
  hit : A → Found A

module _ {A : Type 0} where
  -- a test, and what to report where it fails
  unfoldable pub test : Bool → A → Found A
  test true a = clear
  test false a = hit a

  -- one search, and another where the first finds nothing
  unfoldable pub and_then : Found A → Found A → Found A
  and_then clear g = g
  and_then (hit a) g = hit a

  -- a search that is made only where a condition holds
  unfoldable pub under : Bool → Found A → Found A
  under true f = f
  under false f = clear

  -- the searches at the numbers below n, the lowest number first
  unfoldable pub first : ℕ → (ℕ → Found A) → Found A
  first zero f = clear
  first (suc n) f = and_then (first n f) (f n)

-- a test passes at every number below n; at some number below n
unfoldable pub every : ℕ → (ℕ → Bool) → Bool
every zero f = true
every (suc n) f = every n f && f n

unfoldable pub any : ℕ → (ℕ → Bool) → Bool
any zero f = false
any (suc n) f = any n f || f n

-- the sum over the numbers below n
unfoldable pub sum : ℕ → (ℕ → ℕ) → ℕ
sum zero f = 0
sum (suc n) f = sum n f + f n

-- the least of x and of f at the numbers below n that pass a test
unfoldable pub least : ℕ → (ℕ → Bool) → (ℕ → ℕ) → ℕ → ℕ
least zero p f x = x
least (suc n) p f x = cond (p n) (min (f n) (least n p f x)) (least n p f x)
