-- The answers as one number of 64 bits, and what each entry for C promises.
use Rattle.std.specs.Prelude.{ℕ, ◌+◌, ◌*◌, ◌^◌, ◌≤◌, ◌<◌, ◌≡◌, List, [], get_or, Result}
use Rattle.model.specs.declared.Ending.{Ending}
use Rattle.model.specs.declared.Ending.TheVariants.{Quiet, Spent, Full}
use Rattle.model.specs.Memory.{Memory}
use Rattle.records.specs.declared.Refusal.{Refusal}
use Rattle.lent.specs.declared.Counts.{Counts}
use Rattle.engine.specs.declared.Walk.{Walk}
use Rattle.handover.specs.declared.Verdict.{Verdict}
use Rattle.handover.specs.Front.{Outcome, held, rule, judged, Judges, Demand3, SetsBounded}
use Rattle.handover.specs.Refusals.{Reply, done, refused, TableNumber, MendNumber, StartNumber, StepNumber, WalkNumber}
use Rattle.handover.specs.Mending.{mend_reply, mend_output, MendPromise}
use Rattle.handover.specs.Engine.{Left, start_of, step_of, walk_of, StartPromise, StepPromise, WalkPromise}

-- ---- the numbers

-- "plus 2^8, 2^24 and 2^40 times the place's first, second and third figure"; a figure that there is not is 0
abbrev pub packed_place : List ℕ → ℕ
packed_place figures = 2 ^ 8 * get_or figures 0 0 + 2 ^ 24 * get_or figures 1 0 + 2 ^ 40 * get_or figures 2 0

-- a refusal's number and place: "100 + the refusal's", and "after a refusal 2^8 times the place alone"
abbrev pub denied : ℕ → ℕ → ℕ
denied number place = 100 + number + 2 ^ 8 * place

-- "done or quiet 0, spent 1, full 2"
abbrev pub ending : Ending → ℕ
ending Quiet = 0
ending Spent = 1
ending Full = 2

-- "plus 2^8 times the thread count, 2^18 times the marker count, 2^32 times the steps made"
abbrev pub counted : ℕ → ℕ → ℕ → ℕ → ℕ
counted code threads markers steps = code + 2 ^ 8 * threads + 2 ^ 18 * markers + 2 ^ 32 * steps

-- what was done, by its own number, or a refusal's
abbrev pub packed_reply : {A : Type 0} → (A → ℕ) → Reply A → ℕ
packed_reply f (done x) = f x
packed_reply f (refused n p) = denied n p

-- "0 for held, else the rule's number"
abbrev pub packed_outcome : Outcome → ℕ
packed_outcome (held z) = 0
packed_outcome (rule r figures) = r + packed_place figures

-- mended: code 0 plus 2^8 times the number of bits
abbrev pub packed_mend : ℕ → ℕ
packed_mend n = 2 ^ 8 * n

-- a start lists no marker and makes no step; a step makes one; a walk tells how many
abbrev pub packed_start : ℕ → ℕ
packed_start k = counted 0 k 0 0

abbrev pub packed_step : Counts → ℕ
packed_step n = counted 0 n.threads n.markers 1

abbrev pub packed_walk : Walk → ℕ
packed_walk w = counted (ending w.ending) w.counts.threads w.counts.markers w.steps

-- ---- each part stays within its bits, so a caller reads it back by shifts and masks

-- a refusal's number is one of those that the entry may refuse by, of which P holds
abbrev pub FitsRefusal : (ℕ → Type 0) → ℕ → ℕ → Type 0
FitsRefusal P number place = P number × (place < 2 ^ 16)

abbrev pub FitsFigures : List ℕ → Type 0
FitsFigures figures = (get_or figures 0 0 < 2 ^ 16) × (get_or figures 1 0 < 2 ^ 16) × (get_or figures 2 0 < 2 ^ 16)

abbrev pub FitsOutcome : Outcome → Type 0
FitsOutcome (held z) = Unit {0}
FitsOutcome (rule r figures) = (1 ≤ r) × (r ≤ 5) × FitsFigures figures

-- 256 rows have 65,536 bits
abbrev pub FitsMend : ℕ → Type 0
FitsMend n = n ≤ 65536

abbrev pub FitsCounts : ℕ → ℕ → Type 0
FitsCounts threads markers = (threads < 2 ^ 10) × (markers < 2 ^ 14)

abbrev pub FitsReply : {A : Type 0} → (A → Type 0) → (ℕ → Type 0) → Reply A → Type 0
FitsReply Q P (done x) = Q x
FitsReply Q P (refused n p) = FitsRefusal P n p

abbrev pub FitsStart : ℕ → Type 0
FitsStart k = FitsCounts k 0

abbrev pub FitsStep : Counts → Type 0
FitsStep n = FitsCounts n.threads n.markers

abbrev pub FitsWalk : Walk → Type 0
FitsWalk w = FitsStep w.counts × (w.steps < 2 ^ 32)

-- ---- the promises

pub record ChecksInC (f s : List ℕ) (r : ℕ) : Type 0 where
  pub returns : r ≡ packed_reply packed_outcome (judged f s)
  pub fits : FitsReply FitsOutcome TableNumber (judged f s)
  -- it is the number of an answer that has the whole promise of the checker's entry
  pub judges : (v : Result Verdict Refusal) × Judges f s v
  -- demand 3, and 02's sentence on sets (request i)
  pub holds : r ≡ 0 → Demand3 f s
  pub bounds : r ≡ 0 → SetsBounded f s

-- the number, and every byte of the output
pub record MendsInC (f s out : List ℕ) (r : ℕ) (left : List ℕ) : Type 0 where
  pub returns : r ≡ packed_reply packed_mend (mend_reply f s out)
  pub fits : FitsReply FitsMend MendNumber (mend_reply f s out)
  pub leaves : left ≡ mend_output f s out
  pub promise : (x : Result ℕ Refusal) × MendPromise f s out x left

-- the number, and every word of both lists
pub record Leaves {A : Type 0} (Q : A → Type 0) (P : ℕ → Type 0) (f : A → ℕ) (o : Left A) (r : ℕ) (l ml : List ℕ) : Type 0 where
  pub returns : r ≡ packed_reply f o.reply
  pub threads : l ≡ o.threads
  pub markers : ml ≡ o.markers
  pub fits : FitsReply Q P o.reply

pub record StartsInC (f choices : List ℕ) (m : Memory) (r : ℕ) (l : List ℕ) : Type 0 where
  pub leaves : Leaves FitsStart StartNumber packed_start (start_of f choices m) r l []
  pub promise : (x : Result ℕ Refusal) × StartPromise f choices m x l

pub record StepsInC (f choices : List ℕ) (m : Memory) (receiver sender r : ℕ) (l ml : List ℕ) : Type 0 where
  pub leaves : Leaves FitsStep StepNumber packed_step (step_of f choices m receiver sender) r l ml
  pub promise : (x : Result Counts Refusal) × StepPromise f choices m receiver sender x l ml

pub record WalksInC (f choices : List ℕ) (m : Memory) (allowed r : ℕ) (l ml : List ℕ) : Type 0 where
  pub leaves : Leaves FitsWalk WalkNumber packed_walk (walk_of f choices m allowed) r l ml
  pub promise : (x : Result Walk Refusal) × WalkPromise f choices m allowed x l ml
