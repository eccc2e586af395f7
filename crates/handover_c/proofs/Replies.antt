-- The number of a start's, a step's or a walk's answer: its parts stay within their bits.
use Prim.Native.Nat.{ℕ, zero, suc, ◌^◌, ◌≤◌, ◌<◌}
use native.Mathlib.Omega.{arith}
use mathlib.Core.Path.{◌≡◌, refl, sym, ap, ◌∙◌, subst}
use mathlib.Core.Bool.{true, false, true≢false}
use mathlib.Core.List.{List, []}
use Rattle.std.specs.Prelude as P
use Rattle.laws.specs.Search.{Found, clear, hit}
use Rattle.model.specs.Tree.{Array}
use Rattle.model.specs.Formed as F
use Rattle.model.specs.Calculus as C
use Rattle.model.specs.Calculus.{Choices, Config, Attempt, Answer, next, choices_of, attempt, start}
use Rattle.model.specs.Numbers.{Entry}
use Rattle.model.specs.Memory.{Memory, Result, stops, leaves, words, config_of, entries_of, start_in, step_in, walk_in, try}
use Rattle.model.specs.Memory.{store, fitted, on_answer, first_ready, on_pair, on_step, ends, more}
use Rattle.model.specs.declared.Ending.TheVariants.{Quiet, Spent, Full}
use Rattle.model.proofs.Lent.{formed-sound}
use Rattle.model.proofs.Engine.{Fate, crowded, unlisted, stored, fitted-fate}
use Rattle.records.specs.declared.Refusal.{Refusal}
use Rattle.lent.specs.declared.Counts.{Counts}
use Rattle.engine.specs.declared.Walk.{Walk}
use Rattle.handover.specs.Front.{array_in}
use Rattle.handover.specs.Engine.{Left, left, left_unless, result_left, counts_in, start_refusal, lent_refusal, start_of, step_of, walk_of}
use Rattle.handover.specs.Engine.{StartPromise, StepPromise, WalkPromise}
use Rattle.handover_c.specs.Packed.{packed_reply, packed_start, packed_step, packed_walk, FitsCounts, FitsReply, FitsStart, FitsStep, FitsWalk}
use Rattle.handover_c.specs.Packed.{Leaves, StartsInC, StepsInC, WalksInC}
use Rattle.handover.specs.Refusals.{Reply, said, StartNumber, StepNumber, WalkNumber}
use Rattle.handover.proofs.Refusals.{Small, start_small, lent-step, lent-walk, leave-stop, start-number, step-number}

-- ---- what the engine finds

-- a refusal's number, or the counts
abbrev FitsResult : (ℕ → Type 0) → Result → Type 0
FitsResult P (stops n) = P n
FitsResult P (leaves m) = FitsCounts m.thread_count m.marker_count

stored-fits : (a : Array) (m : Memory) (d : Config ℕ ℕ) (ds : List Entry) (n : Memory) → fitted a m d ds ≡ leaves n
    → FitsCounts n.thread_count n.marker_count
unfolding store
stored-fits a m d ds n e = go (fitted-fate a m d ds)
  where
    same : {x y : Memory} → leaves x ≡ leaves y → x ≡ y
    same e = cc

    go : Fate a m d ds (fitted a m d ds) → FitsCounts n.thread_count n.marker_count
    go (crowded q h) = leave-stop n 28 (sym (sym q ∙ e))
    go (unlisted q h) = leave-stop n 29 (sym (sym q ∙ e))
    go (stored q h k) = subst (λ (x : Memory). FitsCounts x.thread_count x.marker_count) (same (sym q ∙ e)) (omega (arith, h), omega (arith, k))

fits_by : (P : ℕ → Type 0) (r : Result) → ((n : ℕ) → r ≡ stops n → P n) → ((n : Memory) → r ≡ leaves n → FitsCounts n.thread_count n.marker_count)
    → FitsResult P r
fits_by P (stops n) h k = h n refl
fits_by P (leaves n) h k = k n refl

step_fits : (a : Array) (m : Memory) (u : Attempt) → FitsResult StepNumber (step_in a m u)
unfolding step_in on_answer
step_fits a m u = fits_by StepNumber (step_in a m u) (step-number a m u) (go _ (attempt (words (entries_of m)) a (config_of a m) u))
  where
    go : (es : List Entry) (x : Answer ℕ ℕ) (n : Memory) → on_answer a m es x ≡ leaves n → FitsCounts n.thread_count n.marker_count
    go es (C.refused k) n e = let z : true ≡ false = cc in absurd (true≢false z)
    go es (next c) n e = stored-fits a m c es n e

start_fits : (a : Array) (ch : Choices) (m : Memory) → FitsResult StartNumber (start_in a ch m)
unfolding start_in
start_fits a ch m = fits_by StartNumber (start_in a ch m) (start-number a ch m) (stored-fits a m (start (words []) a ch) [])

-- a walk makes no more steps than it is allowed
walk_steps : (a : Array) (ch : Choices) (k : ℕ) (m : Memory) → (walk_in a ch k m).steps ≤ k
unfolding walk_in on_pair on_step
walk_steps a ch zero m = go (first_ready (words (entries_of m)) a ch (config_of a m))
  where
    go : (x : Found Attempt) → (on_pair x (ends Quiet m) (λ u. ends Spent m)).steps ≤ 0
    go clear = omega arith
    go (hit u) = omega arith
walk_steps a ch (suc k) m = go (λ n. walk_steps a ch k n) (first_ready (words (entries_of m)) a ch (config_of a m))
  where
    step : ((n : Memory) → (walk_in a ch k n).steps ≤ k) → (r : Result) → (on_step r (ends Full m) (λ n. more (walk_in a ch k n))).steps ≤ suc k
    step rest (stops n) = omega arith
    step rest (leaves n) = omega (arith, rest n)

    go : ((n : Memory) → (walk_in a ch k n).steps ≤ k) → (x : Found Attempt)
        → (on_pair x (ends Quiet m) (λ u. on_step (step_in a m u) (ends Full m) (λ n. more (walk_in a ch k n)))).steps ≤ suc k
    go rest clear = omega arith
    go rest (hit u) = step rest (step_in a m u)

-- ---- what an entry leaves

module _ {A : Type 0} (Q : A → Type 0) (P : ℕ → Type 0) where
  unrefused : (x : Found F.Refusal) (m : Memory) (o : Left A) → Small P x → (x ≡ clear → FitsReply Q P o.reply) → FitsReply Q P (left_unless x m o).reply
  unrefused clear m o h k = k refl
  unrefused (hit r) m o h k = h r refl

  result_fits : (f : Memory → A) → ((n : Memory) → FitsCounts n.thread_count n.marker_count → Q (f n)) → (m : Memory) (r : Result) → FitsResult P r
      → FitsReply Q P (result_left f m r).reply
  result_fits f q m (stops n) h = (h, omega arith)
  result_fits f q m (leaves n) h = q n h

module _ (f choices : List ℕ) (m : Memory) where
  start-of : FitsReply FitsStart StartNumber (start_of f choices m).reply
  unfolding start_of
  start-of = unrefused FitsStart StartNumber (start_refusal f choices) m _ (start_small f choices) λ _.
      result_fits FitsStart StartNumber (λ n. n.thread_count) (λ n h. (h.0, omega arith)) m (start_in (array_in f) (choices_of choices) m)
      (start_fits (array_in f) (choices_of choices) m)

  step-of : (r s : ℕ) → FitsReply FitsStep StepNumber (step_of f choices m r s).reply
  unfolding step_of
  step-of r s = unrefused FitsStep StepNumber (lent_refusal f choices m) m _ (lent-step f choices m) λ _.
      let u = try (choices_of choices) r s in
      result_fits FitsStep StepNumber counts_in (λ n h. h) m (step_in (array_in f) m u) (step_fits (array_in f) m u)

  -- the counts of a walk are those of lists that are well formed
  walk-of : (allowed : ℕ) → allowed < 2 ^ 32 → (x : P.Result Walk Refusal) (l ml : List ℕ) → WalkPromise f choices m allowed x l ml
      → FitsReply FitsWalk WalkNumber (walk_of f choices m allowed).reply
  unfolding walk_of
  walk-of allowed small x l ml p = unrefused FitsWalk WalkNumber (lent_refusal f choices m) m _ (lent-walk f choices m) λ c.
      let w = walk_in (array_in f) (choices_of choices) allowed m in
      let sound = formed-sound (array_in f) w.left (p.formed c) in
      ((omega (arith, sound.threads_fit), omega (arith, sound.markers_fit)), omega (arith, small, walk_steps (array_in f) (choices_of choices) allowed m))

-- ---- the promises

module _ {A : Type 0} (Q : A → Type 0) (P : ℕ → Type 0) (f : A → ℕ) where
  leaves_by : (o : Left A) (y : Reply A) (r : ℕ) (l ml : List ℕ) → left y l ml ≡ o → FitsReply Q P o.reply → r ≡ packed_reply f y → Leaves Q P f o r l ml
  leaves_by o y r l ml e h q = record {
    returns = q ∙ ap (λ (x : Left A). packed_reply f x.reply) e;
    threads = ap (λ (x : Left A). x.threads) e;
    markers = ap (λ (x : Left A). x.markers) e;
    fits = h;
  }

module _ (f choices : List ℕ) (m : Memory) where
  module _ (x : P.Result ℕ Refusal) (l : List ℕ) (p : StartPromise f choices m x l) where
    pub start-answer : FitsReply FitsStart StartNumber (said x)
    start-answer = subst (λ (o : Left ℕ). FitsReply FitsStart StartNumber o.reply) (sym p.leaves) (start-of f choices m)

    pub starts : (r : ℕ) → r ≡ packed_reply packed_start (said x) → StartsInC f choices m r l
    starts r e = record { leaves = leaves_by FitsStart StartNumber packed_start _ _ r l [] p.leaves (start-of f choices m) e; promise = (x, p) }

  module _ (i j : ℕ) (x : P.Result Counts Refusal) (l ml : List ℕ) (p : StepPromise f choices m i j x l ml) where
    pub step-answer : FitsReply FitsStep StepNumber (said x)
    step-answer = subst (λ (o : Left Counts). FitsReply FitsStep StepNumber o.reply) (sym p.leaves) (step-of f choices m i j)

    pub steps : (r : ℕ) → r ≡ packed_reply packed_step (said x) → StepsInC f choices m i j r l ml
    steps r e = record { leaves = leaves_by FitsStep StepNumber packed_step _ _ r l ml p.leaves (step-of f choices m i j) e; promise = (x, p) }

  module _ (allowed : ℕ) (small : allowed < 2 ^ 32) (x : P.Result Walk Refusal) (l ml : List ℕ) (p : WalkPromise f choices m allowed x l ml) where
    pub walk-answer : FitsReply FitsWalk WalkNumber (said x)
    walk-answer = subst (λ (o : Left Walk). FitsReply FitsWalk WalkNumber o.reply) (sym p.leaves) (walk-of f choices m allowed small x l ml p)

    pub walks : (r : ℕ) → r ≡ packed_reply packed_walk (said x) → WalksInC f choices m allowed r l ml
    walks r e = record {
      leaves = leaves_by FitsWalk WalkNumber packed_walk _ _ r l ml p.leaves (walk-of f choices m allowed small x l ml p) e;
      promise = (x, p);
    }
