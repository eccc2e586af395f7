-- Lists: what holds of all elements, how often a number stands in a list, and lists changed in place.
use Rattle.std.specs.Prelude.{ℕ, ◌+◌, Bool, true, false, cond, ◌&&◌, ◌||◌, List, [], ◌∷◌, ◌++◌, eqb, length, take, drop}

-- a statement holds of every element
abbrev pub All : {A : Type 0} → (A → Type 0) → List A → Type 0
All P [] = Unit {0}
All P (x ∷ xs) = P x × All P xs

-- 1 where a test passes
unfoldable pub one : Bool → ℕ
one b = cond b 1 0

-- a test passes at every number of a list
unfoldable pub all : (ℕ → Bool) → List ℕ → Bool
all f [] = true
all f (x ∷ xs) = f x && all f xs

-- number v stands in a list; how often it does
unfoldable pub has : List ℕ → ℕ → Bool
has [] v = false
has (x ∷ xs) v = eqb v x || has xs v

unfoldable pub times : List ℕ → ℕ → ℕ
times [] v = 0
times (x ∷ xs) v = one (eqb v x) + times xs v

-- a list with the words xs written from position at on: every other word stays
unfoldable pub put : {A : Type 0} → ℕ → List A → List A → List A
put at xs l = take at l ++ (xs ++ drop (at + length xs) l)
