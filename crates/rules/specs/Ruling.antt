-- What the checker's rules answer: 01's number and place figures for each case. Rules 1, 2 and 5 by the checker's own lists.
use Rattle.std.specs.Prelude.{ℕ, ◌+◌, ◌*◌, ◌<◌, Bool, not, ◌||◌, Result, Ok, Err, List, [], ◌∷◌, leb, ltb, length, get_or}
use Rattle.laws.specs.Search.{clear, hit, test, first, every}
use Rattle.marks.specs.Marks.{marked}
use Rattle.model.specs.Tree.{Array, is_new}
use Rattle.model.specs.declared.Claim.{Claim}
use Rattle.model.specs.Rules as M
use Rattle.model.specs.Rules.{Table, together, SetsAgree, Rising, Verdict, at}
use Rattle.layout.specs.declared.Sizes.{Sizes}
use Rattle.layout.specs.Table.{table_of, ClaimsLie}
use Rattle.loads.specs.Loads.{load_in, Half}
use Rattle.rules.specs.declared.Broken.{Broken}
use Rattle.rules.specs.declared.Broken.TheVariants.{Rule1, Rule2, Rule3, Rule4, Rule5}

-- a broken rule with its place figures
abbrev pub broken_of : Broken → M.Broken
broken_of (Rule1 o) = at 1 (o ∷ [])
broken_of (Rule2 k) = at 2 (k ∷ [])
broken_of (Rule3 p q n) = at 3 (p ∷ q ∷ n ∷ [])
broken_of (Rule4 p q k) = at 4 (p ∷ q ∷ k ∷ [])
broken_of (Rule5 c) = at 5 (c ∷ [])

abbrev pub ruled : Result (Unit {0}) Broken → Verdict
ruled (Ok x) = clear
ruled (Err b) = hit (broken_of b)

-- ---- rules 1, 2 and 5 by the lists

-- a rule whose place is one number below n, by its test there
abbrev pub rule_below : ℕ → ℕ → (ℕ → Bool) → Verdict
rule_below n r holds = first n (λ k. test (holds k) (at r (k ∷ [])))

-- name o is no name that a new opens, or its row has its own mark
abbrev pub own_marked : Array → List ℕ → ℕ → Bool
own_marked a rows o = not (is_new a o) || marked rows o o

-- the load of node 0 in balance k is within the bound
abbrev pub root_fits : List ℕ → List ℕ → ℕ → Bool
root_fits loads bounds k = leb (load_in loads 0 k) (get_or bounds k 0)

-- a claim alone: its agent's weight × (most + 1) exceeds the bound of its balance
abbrev pub claim_holds : List ℕ → List ℕ → Claim → Bool
claim_holds loads bounds x = ltb (get_or bounds x.balance 0) (load_in loads x.agent x.balance * (x.most + 1))

-- each claim of claim c's set holds alone. Where sets agree (30), that is rule 5 of the set (model/proofs/Sets).
abbrev pub set_holds : Table → (ℕ → Bool) → ℕ → Bool
set_holds t holds c = every t.claims λ d. not (together t c d) || holds d

-- the claim's balance and agent have entries in the lists
pub record ClaimListed (loads bounds : List ℕ) (x : Claim) : Type 0 where
  pub bound : x.balance < length bounds
  pub weight : Half loads x.agent x.balance
  pub most : x.most < 65536

pub record ClaimsListed (s : List ℕ) (z : Sizes) (loads bounds : List ℕ) : Type 0 where
  pub lie : ClaimsLie s z
  pub listed : (c : ℕ) → c < z.claims → ClaimListed loads bounds ((table_of s z).claim c)
  pub rise : Rising (table_of s z)

-- ---- all rules: over a weighing beside rows, and the claims of a table file

pub record AllListed (s : List ℕ) (z : Sizes) (loads bounds : List ℕ) : Type 0 where
  pub claims : ClaimsListed s z loads bounds
  pub sets : SetsAgree (table_of s z)

-- a table with the claims of the file
abbrev pub claimed : Table → List ℕ → Sizes → Table
claimed t s z = record { row = t.row; balances = t.balances; balance = t.balance; claims = z.claims; claim = (table_of s z).claim }
