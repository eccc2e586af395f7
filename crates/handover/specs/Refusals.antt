-- Answers in 01's numbers: what a call did, or its refusal; and the numbers that each entry may refuse by (01, "Refusals, in checking
-- order"): "Table calls use 1 to 21, start 1 to 12, 22, 28, step 1 to 12 and 22 to 29, walk 1 to 12, 22, 23." Table calls use 30 and 31
-- too (02, requests i and ii), and mending 32 (request iv). The walk told step by step refuses as the walk does.
use Rattle.std.specs.Prelude.{ℕ, ◌≤◌, ◌≡◌, ◌⊎◌, Result, Ok, Err}
use Rattle.laws.specs.Search.{Found, clear, hit}
use Rattle.model.specs.Formed as F
use Rattle.records.specs.declared.Refusal.{Refusal}
use Rattle.records.specs.Record.{number_of}

-- what a call did, or "its number and a place (0 where none is named)"
pub data Reply (A : Type 0) : Type 0 where
  done : A → Reply A
  refused : ℕ → ℕ → Reply A

-- each case of an answer: what the call did, or the refusal
abbrev pub said : {A : Type 0} → Result A Refusal → Reply A
said (Ok x) = done x
said (Err r) = refused (number_of r.reason) r.place

-- the first refusal, else what the call did
abbrev pub unless_refused : {A : Type 0} → Found F.Refusal → A → Reply A
unless_refused clear x = done x
unless_refused (hit r) x = refused r.number r.place

-- ---- the numbers

-- "The array is checked before anything else in every call."
abbrev pub ArrayNumber : ℕ → Type 0
ArrayNumber n = (1 ≤ n) × (n ≤ 12)

abbrev pub TableNumber : ℕ → Type 0
TableNumber n = ((1 ≤ n) × (n ≤ 21)) ⊎ ((30 ≤ n) × (n ≤ 31))

-- "32 .. checked after 31" (02, request iv)
abbrev pub MendNumber : ℕ → Type 0
MendNumber n = TableNumber n ⊎ (n ≡ 32)

abbrev pub StartNumber : ℕ → Type 0
StartNumber n = ArrayNumber n ⊎ ((n ≡ 22) ⊎ (n ≡ 28))

abbrev pub StepNumber : ℕ → Type 0
StepNumber n = ArrayNumber n ⊎ ((22 ≤ n) × (n ≤ 29))

abbrev pub WalkNumber : ℕ → Type 0
WalkNumber n = ArrayNumber n ⊎ ((n ≡ 22) ⊎ (n ≡ 23))
