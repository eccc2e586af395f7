-- The engine's entries: what a call answers in 01's numbers, what it must answer and leave in both lists, and what that says in the
-- terms of the calculus.
use Rattle.std.specs.Prelude.{ℕ, suc, ◌-◌, ◌≡◌, true, List, [], get_or}
use Rattle.std.specs.Prelude as P
use Rattle.laws.specs.Search.{Found, clear, hit, and_then}
use Rattle.model.specs.Tree.{Array}
use Rattle.model.specs.Formed as F
use Rattle.model.specs.Calculus.{calculus, Attempt, choices_of, attempt}
use Rattle.model.specs.Numbers.{nobody}
use Rattle.model.specs.declared.Ending.{Ending}
use Rattle.model.specs.Memory as M
use Rattle.model.specs.Memory.{Memory, memory, config_of, formed, refusal22, refusal23, Result, stops, leaves, start_in, step_in, walk_in, try}
use Rattle.model.specs.Memory.{marker_made, Next, moved, next_in, resumed, stands_for, Starts, Follows, Walks, Ends, Tells}
use Rattle.records.specs.declared.Refusal.{Refusal}
use Rattle.arrays.specs.File.{array_refusal}
use Rattle.lent.specs.declared.Counts.{Counts}
use Rattle.engine.specs.declared.Allowance.{Allowance}
use Rattle.engine.specs.declared.Turn.{Turn}
use Rattle.engine.specs.declared.Walk.{Walk}
use Rattle.handover.specs.declared.Told.{Told}
use Rattle.handover.specs.declared.Told.TheVariants.{Made, Ended}
use Rattle.handover.specs.Front.{array_in}
use Rattle.handover.specs.Refusals.{Reply, done, refused, said, StartNumber, StepNumber, WalkNumber}

-- ---- what a call leaves: its reply, and every word of both lists

pub record Left (A : Type 0) : Type 0 where
  pub reply : Reply A
  pub threads : List ℕ
  pub markers : List ℕ

module _ {A : Type 0} where
  abbrev pub left : Reply A → List ℕ → List ℕ → Left A
  left r l ml = record { reply = r; threads = l; markers = ml }

  -- a refusal leaves the lists as they were
  abbrev pub unchanged : Reply A → Memory → Left A
  unchanged r m = left r m.threads m.markers

  -- the first refusal of 1 to 12, 22 and, for step, walk and stride, 23; else what the call does
  abbrev pub left_unless : Found F.Refusal → Memory → Left A → Left A
  left_unless clear m x = x
  left_unless (hit r) m x = unchanged (refused r.number r.place) m

  -- a start or a step, of which f is told
  abbrev pub result_left : (Memory → A) → Memory → Result → Left A
  result_left f m (stops n) = unchanged (refused n 0) m
  result_left f m (leaves n) = left (done (f n)) n.threads n.markers

abbrev pub counts_in : Memory → Counts
counts_in m = record { threads = m.thread_count; markers = m.marker_count }

abbrev pub walk_left : M.Walked → Left Walk
walk_left w = left (done record { ending = w.ending; steps = w.steps; counts = counts_in w.left }) w.left.threads w.left.markers

-- "start 1 to 12, 22, 28, step 1 to 12 and 22 to 29, walk 1 to 12, 22, 23"
abbrev pub start_refusal : List ℕ → List ℕ → Found F.Refusal
start_refusal f choices = and_then (array_refusal f) (refusal22 choices)

abbrev pub lent_refusal : List ℕ → List ℕ → Memory → Found F.Refusal
lent_refusal f choices m = and_then (start_refusal f choices) (refusal23 (array_in f) m)

unfoldable pub start_of : List ℕ → List ℕ → Memory → Left ℕ
start_of f choices m = left_unless (start_refusal f choices) m (result_left (λ n. n.thread_count) m (start_in (array_in f) (choices_of choices) m))

unfoldable pub step_of : List ℕ → List ℕ → Memory → ℕ → ℕ → Left Counts
step_of f choices m r s = left_unless (lent_refusal f choices m) m (result_left counts_in m (step_in (array_in f) m (try (choices_of choices) r s)))

unfoldable pub walk_of : List ℕ → List ℕ → Memory → ℕ → Left Walk
walk_of f choices m allowed = left_unless (lent_refusal f choices m) m (walk_left (walk_in (array_in f) (choices_of choices) allowed m))

-- the walk's next step, told: the two agents of the pair, the marker number, the counts after it, and one step less left; or its ending, with
-- the steps made before it, which are those allowed less those left
unfoldable pub next_left : Array → Memory → Allowance → Next → Left Told
next_left a m w (M.ended x) = unchanged (done (Ended x (w.allowed - w.left))) m
next_left a m w (moved u n) =
    let told : Turn = record {
      receiver = (get_or (config_of a m) u.receiver nobody).agent;
      sender = (get_or (config_of a m) u.sender nobody).agent;
      marker = marker_made a m u;
      counts = counts_in n;
      allowance = record { allowed = w.allowed; left = w.left - 1 };
    } in
    left (done (Made told)) n.threads n.markers

unfoldable pub stride_of : List ℕ → List ℕ → Memory → Allowance → Left Told
stride_of f choices m w = left_unless (lent_refusal f choices m) m (next_left (array_in f) m w (next_in (array_in f) (choices_of choices) w.left m))

-- a walk followed to its end by strides, each lent the lists, the counts and the allowance that the last one left: the number of steps told,
-- then the ending, the steps made as they are told with it, and the lists
pub data Followed (f choices : List ℕ) : Memory → Allowance → ℕ → Ending → ℕ → Memory → Type 0 where
  over : (m : Memory) (w : Allowance) (x : Ending) (s : ℕ) → stride_of f choices m w ≡ unchanged (done (Ended x s)) m → Followed f choices m w 0 x s m
  then : (m : Memory) (w : Allowance) (t : Turn) (ts ms : List ℕ) → stride_of f choices m w ≡ left (done (Made t)) ts ms
      → (n : ℕ) (x : Ending) (s : ℕ) (e : Memory) → Followed f choices (memory ts t.counts.threads ms t.counts.markers) t.allowance n x s e
      → Followed f choices m w (suc n) x s e

-- ---- the whole promise of each entry

pub record StartPromise (f choices : List ℕ) (m : Memory) (x : P.Result ℕ Refusal) (l : List ℕ) : Type 0 where
  pub leaves : left (said x) l [] ≡ start_of f choices m
  -- where nothing is refused before 28, the lists hold the calculus' start, or it has more threads than fit
  pub starts : start_refusal f choices ≡ clear → Starts (array_in f) (choices_of choices) m (start_in (array_in f) (choices_of choices) m)
  -- and what a start leaves is well formed
  pub formed : start_refusal f choices ≡ clear → (n : Memory) → start_in (array_in f) (choices_of choices) m ≡ M.leaves n → formed (array_in f) n ≡ true
  pub listed : (n p : ℕ) → said x ≡ refused n p → StartNumber n

pub record StepPromise (f choices : List ℕ) (m : Memory) (r s : ℕ) (x : P.Result Counts Refusal) (l ml : List ℕ) : Type 0 where
  pub leaves : left (said x) l ml ≡ step_of f choices m r s
  -- where nothing is refused before 24: refused by 24 to 27 exactly as the calculus refuses; else the calculus' step, unless 28 or 29
  -- stops it
  pub follows : lent_refusal f choices m ≡ clear
      → Follows (array_in f) m (try (choices_of choices) r s) (attempt calculus (array_in f) (stands_for (array_in f) m) (try (choices_of choices) r s))
      (step_in (array_in f) m (try (choices_of choices) r s))
  -- a step keeps 23
  pub formed : lent_refusal f choices m ≡ clear → (n : Memory) → step_in (array_in f) m (try (choices_of choices) r s) ≡ M.leaves n → formed (array_in f) n ≡ true
  pub listed : (n p : ℕ) → said x ≡ refused n p → StepNumber n

pub record WalkPromise (f choices : List ℕ) (m : Memory) (allowed : ℕ) (x : P.Result Walk Refusal) (l ml : List ℕ) : Type 0 where
  pub leaves : left (said x) l ml ≡ walk_of f choices m allowed
  -- where nothing is refused: as many steps of the calculus as the answer says, each of the first ready pair, lead to what the lists hold
  pub walks : lent_refusal f choices m ≡ clear
      → Walks (array_in f) (choices_of choices) (walk_in (array_in f) (choices_of choices) allowed m).steps (stands_for (array_in f) m)
      (stands_for (array_in f) (walk_in (array_in f) (choices_of choices) allowed m).left)
  -- and the ending is quiet without a ready pair, spent with one and all allowed steps made, full with one that the lists cannot hold
  pub ends : lent_refusal f choices m ≡ clear
      → Ends (array_in f) (choices_of choices) allowed (walk_in (array_in f) (choices_of choices) allowed m)
      (walk_in (array_in f) (choices_of choices) allowed m).ending
  pub formed : lent_refusal f choices m ≡ clear → formed (array_in f) (walk_in (array_in f) (choices_of choices) allowed m).left ≡ true
  pub listed : (n p : ℕ) → said x ≡ refused n p → WalkNumber n

pub record StridePromise (f choices : List ℕ) (m : Memory) (w : Allowance) (x : P.Result Told Refusal) (l ml : List ℕ) : Type 0 where
  pub leaves : left (said x) l ml ≡ stride_of f choices m w
  -- the walk that is left is this ending, or this step and the walk from there with one step less left
  pub tells : walk_in (array_in f) (choices_of choices) w.left m
      ≡ resumed (array_in f) (choices_of choices) w.left m (next_in (array_in f) (choices_of choices) w.left m)
  -- followed to its end from an allowance that is whole, it tells what the walk answers, and as many steps as it says
  pub whole : w.left ≡ w.allowed → (n : ℕ) (x : Ending) (s : ℕ) (e : Memory) → Followed f choices m w n x s e
      → (walk_of f choices m w.allowed ≡ walk_left record { ending = x; steps = s; left = e }) × (n ≡ s)
  -- in the calculus, where nothing is refused: the ending as the walk's; or the step of the first ready pair, what it leaves, and the marker of
  -- its continuation
  pub follows : lent_refusal f choices m ≡ clear
      → Tells (array_in f) (choices_of choices) w.left m (next_in (array_in f) (choices_of choices) w.left m)
  -- a step keeps 23
  pub formed : lent_refusal f choices m ≡ clear → (u : Attempt) (n : Memory) → next_in (array_in f) (choices_of choices) w.left m ≡ moved u n
      → formed (array_in f) n ≡ true
  pub listed : (n p : ℕ) → said x ≡ refused n p → WalkNumber n
