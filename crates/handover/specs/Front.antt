-- The front page's definitions: what the readers' and the checker's answers say, what they must say, and what held promises.
use Rattle.std.specs.Prelude.{ℕ, ◌+◌, ◌≤◌, ◌<◌, ◌≡◌, ◌↔◌, false, List, [], ◌∷◌, get_or, Result, Ok, Err}
use Rattle.laws.specs.Search.{clear, hit}
use Rattle.laws.specs.Lists.{All}
use Rattle.model.specs.Tree.{Array}
use Rattle.model.specs.Calculus.{Choices, Attempt, calculus, run}
use Rattle.model.specs.Rules as M
use Rattle.model.specs.Rules.{Table, together, Each, Rules, at, verdict, FirstBroken}
use Rattle.model.specs.Safe.{set_sum, Safe}
use Rattle.model.specs.Same.{Alike, SameClaims}
use Rattle.records.specs.declared.Refusal.{Refusal}
use Rattle.records.specs.declared.Trailer.{Trailer}
use Rattle.records.specs.Record.{number_of, array_of}
use Rattle.arrays.specs.File.{trailer_of, array_refusal}
use Rattle.layout.specs.declared.Sizes.{Sizes}
use Rattle.layout.specs.Table.{claim_at, sizes_of, table_of, refusal21}
use Rattle.tables.specs.Read.{files_refusal}
use Rattle.handover.specs.declared.Verdict.{Verdict}
use Rattle.handover.specs.declared.Verdict.TheVariants.{Held, Rule1, Rule2, Rule3, Rule4, Rule5}
use Rattle.handover.specs.Refusals.{Reply, done, refused, said, unless_refused, ArrayNumber, TableNumber}

-- ---- what the bytes stand for

abbrev pub array_in : List ℕ → Array
array_in f = array_of f (trailer_of f)

abbrev pub sizes_in : List ℕ → List ℕ → Sizes
sizes_in f s = sizes_of (trailer_of f) s

abbrev pub table_in : List ℕ → List ℕ → Table
table_in f s = table_of s (sizes_in f s)

-- ---- the readers

-- what the trailer says ("start of the records (32 bits), M (16), N (16), word sum (32)", and the format that its letters name), or the refusal
unfoldable pub array_read : List ℕ → Reply Trailer
array_read f = unless_refused (array_refusal f) (trailer_of f)

-- M, N, K, Q and the format, or the refusal
unfoldable pub table_read : List ℕ → List ℕ → Reply Sizes
table_read f s = unless_refused (files_refusal f s) (sizes_in f s)

pub record ArrayPromise (f : List ℕ) (x : Result Trailer Refusal) : Type 0 where
  pub answers : said x ≡ array_read f
  pub listed : (n p : ℕ) → said x ≡ refused n p → ArrayNumber n

-- ---- one order (02, request ii): "Two analysers write the same claims in different orders, and the archive stores both as different tables."

-- the claims of two tables are as many, and the same in the same order, byte by byte
pub record SameBytes (f s u : List ℕ) : Type 0 where
  pub many : (table_in f s).claims ≡ (table_in f u).claims
  pub bytes : Each (table_in f s).claims λ c. Each 8 λ i. get_or s (claim_at (sizes_in f s) c + i) 0 ≡ get_or u (claim_at (sizes_in f u) c + i) 0

-- so it is with every other table of bytes that is read beside the same array and has the same claims as a set
abbrev pub OneOrder : List ℕ → List ℕ → Type 0
OneOrder f s = (u : List ℕ) → All (λ b. b < 256) u → files_refusal f u ≡ clear → SameClaims (table_in f s) (table_in f u) → SameBytes f s u

-- and one that has the same rows and balances too is the same file
abbrev pub OneFile : List ℕ → List ℕ → Type 0
OneFile f s =
    (u : List ℕ) → All (λ b. b < 256) u → files_refusal f u ≡ clear → Alike (array_in f) (table_in f s) (table_in f u)
    → SameClaims (table_in f s) (table_in f u) → s ≡ u

pub record TablePromise (f s : List ℕ) (x : Result Sizes Refusal) : Type 0 where
  pub answers : said x ≡ table_read f s
  pub order : (z : Sizes) → said x ≡ done z → OneOrder f s
  pub file : (z : Sizes) → said x ≡ done z → OneFile f s
  pub listed : (n p : ℕ) → said x ≡ refused n p → TableNumber n

-- ---- the checker: an answer in 01's numbers

-- "`held`, M, N, K, Q; or `rule`, its number and place figures"
pub data Outcome : Type 0 where
  held : Sizes → Outcome
  rule : ℕ → List ℕ → Outcome

-- each case of the verdict
abbrev pub outcome_of : Verdict → Outcome
outcome_of (Held z) = held z
outcome_of (Rule1 o) = rule 1 (o ∷ [])
outcome_of (Rule2 k) = rule 2 (k ∷ [])
outcome_of (Rule3 p q n) = rule 3 (p ∷ q ∷ n ∷ [])
outcome_of (Rule4 p q k) = rule 4 (p ∷ q ∷ k ∷ [])
outcome_of (Rule5 c) = rule 5 (c ∷ [])

-- "or `refused`, number, place"
abbrev pub says : Result Verdict Refusal → Reply Outcome
says (Ok v) = done (outcome_of v)
says (Err r) = refused (number_of r.reason) r.place

-- ---- what the answer must be: the first refusal of 1 to 21, 30 and 31, else the first broken rule and its place, else held

abbrev pub after_rules : M.Verdict → Outcome → Outcome
after_rules clear x = x
after_rules (hit b) x = rule b.rule b.place

unfoldable pub judged : List ℕ → List ℕ → Reply Outcome
judged f s = unless_refused (files_refusal f s) (after_rules (verdict (array_in f) (table_in f s)) (held (sizes_in f s)))

-- ---- demand 3, over bytes: whatever choices at the start and whatever list of attempts, of any length and positions, what the
-- list leaves in the calculus is safe. No limit on threads or markers.

abbrev pub Demand3 : List ℕ → List ℕ → Type 0
Demand3 f s = (ch : Choices) (us : List Attempt) → Safe (array_in f) (table_in f s) (run calculus (array_in f) ch us)

-- "An accepted set claim then bounds the sum of its agents' counts, each agent taken once, in every reachable configuration" (02, request i).
abbrev pub SetsBounded : List ℕ → List ℕ → Type 0
SetsBounded f s =
    (ch : Choices) (us : List Attempt)
    → Each (table_in f s).claims λ q. set_sum (array_in f).size (table_in f s) q (run calculus (array_in f) ch us) ≤ ((table_in f s).claim q).most

-- "What an accepted table says of an array is untouched" (02, request ii): where the array is read and the claims of a table name its agents and
-- balances (21), any other table with the same rows and balances and the same claims, in any order and with any repeats, obeys the rules alike, and
-- what is promised of a held one is the same. A table of before that 31 refuses is one of the two, the other has its claims in order
-- (proofs/Laws: untouched).
abbrev pub Untouched : List ℕ → List ℕ → List ℕ → Type 0
Untouched f s u =
    array_refusal f ≡ clear → refusal21 (array_in f) (table_in f s) ≡ clear → Alike (array_in f) (table_in f s) (table_in f u)
    → SameClaims (table_in f s) (table_in f u)
    → (Rules (array_in f) (table_in f s) ↔ Rules (array_in f) (table_in f u)) × (Demand3 f s ↔ Demand3 f u) × (SetsBounded f s ↔ SetsBounded f u)

-- ---- the whole promise of an answer

abbrev pub IsHeld : Reply Outcome → Type 0
IsHeld (done (held z)) = Unit {0}
IsHeld (done (rule r figures)) = ⊥
IsHeld (refused n p) = ⊥

pub record Judges (f s : List ℕ) (v : Result Verdict Refusal) : Type 0 where
  pub answers : says v ≡ judged f s
  -- demand 2: a table that no refusal meets is accepted exactly when the five rules hold
  pub exactly : files_refusal f s ≡ clear → IsHeld (says v) ↔ Rules (array_in f) (table_in f s)
  -- and otherwise the rule named fails at the place named, and everything before it holds
  pub breaks : (r : ℕ) (figures : List ℕ) → says v ≡ done (rule r figures) → FirstBroken (array_in f) (table_in f s) (at r figures)
  -- "rule 5 names its first claim" (02, request i): no claim before it is of its set
  pub names : (c : ℕ) → says v ≡ done (rule 5 (c ∷ [])) → Each c λ d. together (table_in f s) c d ≡ false
  pub holds : IsHeld (says v) → Demand3 f s
  pub bounds : IsHeld (says v) → SetsBounded f s
  -- a refusal is one of those that table calls use
  pub listed : (n p : ℕ) → says v ≡ refused n p → TableNumber n
