-- Every refusal's number is one that its entry may refuse by, and its place stays below 2^16.
use Prim.Native.Nat.{ℕ, ◌^◌, ◌≤◌, ◌<◌}
use native.Mathlib.Omega.{arith}
use mathlib.Core.Path.{◌≡◌, refl, sym, ap, ◌∙◌, subst}
use mathlib.Core.Logic.{inl, inr, ⊎_elim}
use mathlib.Core.Bool.{Bool, true, false, true≢false}
use mathlib.Core.List.{List, []}
use mathlib.Core.Option.{Option, none, some}
use Rattle.std.specs.Prelude.{Ok}
use Rattle.laws.specs.Search.{Found, clear, hit, and_then, first}
use Rattle.laws.proofs.Search.{test-clear, test-hit, and_then-hit, first-hit}
use Rattle.model.specs.Tree.{Array, Agent}
use Rattle.model.specs.Formed as F
use Rattle.model.specs.Formed.{refuse, refusal8, refusal9, refusal10, refusal11, refusal12}
use Rattle.model.specs.Calculus as C
use Rattle.model.specs.Calculus.{Notation, Choices, Config, Attempt, Answer, next, on_agents, attempt, start}
use Rattle.model.specs.Numbers.{Entry}
use Rattle.model.specs.Memory.{Memory, stops, leaves, words, config_of, entries_of, refusal22, refusal23, fitted, on_answer, start_in, step_in}
use Rattle.model.proofs.Engine.{Fate, crowded, unlisted, stored, fitted-fate}
use Rattle.records.specs.declared.Trailer.{Trailer}
use Rattle.records.specs.Record.{array_of}
use Rattle.fields.specs.Fields.{refusal6, refusal7}
use Rattle.arrays.specs.File.{trailer_of, array_refusal, refusal1, refusal2, refusal3, refusal4, refusal5, from6, read_array, trailer_answer, IsRead}
use Rattle.arrays.proofs.Laws.{read_is, counts-fit}
use Rattle.layout.specs.Table.{sizes_of, table_of, refusal13, refusal14, refusal15, refusal16, refusal17, refusal18, refusal19, refusal20}
use Rattle.layout.specs.Table.{refusal21, refusal30, refusal31}
use Rattle.tables.specs.Read.{table_refusal, files_refusal}
use Rattle.tables.proofs.Laws as L
use Rattle.handover.specs.Front.{array_in}
use Rattle.handover.specs.Engine.{start_refusal, lent_refusal}
use Rattle.handover.specs.Refusals.{ArrayNumber, TableNumber, MendNumber, StartNumber, StepNumber, WalkNumber}

pub reads : (f : List ℕ) → array_refusal f ≡ clear → read_array f ≡ Ok (trailer_of f)
unfolding read_array
reads f c = ap (λ (y : Found F.Refusal). trailer_answer y (trailer_of f)) c

pub read-array : (f : List ℕ) → array_refusal f ≡ clear → IsRead f (trailer_of f)
read-array f c = read_is f (trailer_of f) (reads f c)

-- ---- searches

-- what a search finds has a number of which P holds, and a small place
abbrev pub Small : (ℕ → Type 0) → Found F.Refusal → Type 0
Small P x = (r : F.Refusal) → x ≡ hit r → P r.number × (r.place < 2 ^ 16)

small_by : (P Q : ℕ → Type 0) → ((n : ℕ) → P n → Q n) → (x : Found F.Refusal) → Small P x → Small Q x
small_by P Q h x s r e = let k = s r e in (h r.number k.0, k.1)

module _ (P : ℕ → Type 0) where
  refuse-small : (n p : ℕ) (b : Bool) → P n → p < 2 ^ 16 → Small P (refuse n p b)
  refuse-small n p b h k r e = subst (λ (r : F.Refusal). P r.number × (r.place < 2 ^ 16)) (test-hit b _ r e).1 (h, k)

  and_then-small : (x y : Found F.Refusal) → Small P x → (x ≡ clear → Small P y) → Small P (and_then x y)
  and_then-small x y h k r e = ⊎_elim (λ (q : x ≡ hit r). h r q) (λ (q : (x ≡ clear) × (y ≡ hit r)). k q.0 r q.1) (and_then-hit x y r e)

  -- a refusal without a place, and one at its lowest place
  unplaced : (n : ℕ) (b : Bool) → P n → Small P (refuse n 0 b)
  unplaced n b h = refuse-small n 0 b h (omega arith)

  lowest : (n k : ℕ) (f : ℕ → Bool) → P n → k ≤ 1024 → Small P (first k λ i. refuse n i (f i))
  lowest n k f p h r e =
      let s = first-hit k (λ i. refuse n i (f i)) r e in
      refuse-small n s.0 (f s.0) p (omega (arith, h, s.1)) r s.2

-- ---- 1 to 12

module _ (s : List ℕ) (t : Trailer) (m : t.nodes ≤ 1024) (n : t.names ≤ 256) where
  from6-small : Small ArrayNumber (from6 s t)
  unfolding refusal6 refusal7 refusal8 refusal9 refusal10 refusal11 refusal12
  from6-small =
      and_then-small ArrayNumber (refusal6 s t) _ (lowest ArrayNumber 6 _ _ (omega arith, omega arith) m) λ _.
      and_then-small ArrayNumber (refusal7 s t) _ (lowest ArrayNumber 7 _ _ (omega arith, omega arith) m) λ _.
      and_then-small ArrayNumber (refusal8 (array_of s t)) _ (lowest ArrayNumber 8 _ _ (omega arith, omega arith) m) λ _.
      and_then-small ArrayNumber (refusal9 (array_of s t)) _ (lowest ArrayNumber 9 _ _ (omega arith, omega arith) m) λ _.
      and_then-small ArrayNumber (refusal10 (array_of s t)) _ (lowest ArrayNumber 10 _ _ (omega arith, omega arith) m) λ _.
      and_then-small ArrayNumber (refusal11 (array_of s t)) _ (lowest ArrayNumber 11 _ _ (omega arith, omega arith) (omega (arith, n))) λ _.
      lowest ArrayNumber 12 _ _ (omega arith, omega arith) m

pub array-small : (s : List ℕ) → Small ArrayNumber (array_refusal s)
array-small s =
    let t = trailer_of s in
    and_then-small ArrayNumber (refusal1 s) _ (unplaced ArrayNumber 1 _ (omega arith, omega arith)) λ _.
    and_then-small ArrayNumber (refusal2 t) _ (unplaced ArrayNumber 2 _ (omega arith, omega arith)) λ _.
    and_then-small ArrayNumber (refusal3 t) _ (unplaced ArrayNumber 3 _ (omega arith, omega arith)) λ fits.
    and_then-small ArrayNumber (refusal4 s t) _ (unplaced ArrayNumber 4 _ (omega arith, omega arith)) λ _.
    and_then-small ArrayNumber (refusal5 s t) _ (unplaced ArrayNumber 5 _ (omega arith, omega arith)) λ _.
    let c = counts-fit t (test-clear _ _ fits) in
    from6-small s t c.1 c.2

-- ---- 13 to 21, 30 and 31

table-small : (f : List ℕ) (t : Trailer) (s : List ℕ) → t.names ≤ 256 → Small TableNumber (table_refusal f t s)
unfolding refusal19 refusal20 refusal21 refusal30 refusal31
table-small f t s n =
    let z = sizes_of t s in
    and_then-small TableNumber (refusal13 s) _ (unplaced TableNumber 13 _ (inl (omega arith, omega arith))) λ _.
    and_then-small TableNumber (refusal14 z) _ (unplaced TableNumber 14 _ (inl (omega arith, omega arith))) λ _.
    and_then-small TableNumber (refusal15 z) _ (unplaced TableNumber 15 _ (inl (omega arith, omega arith))) λ fits.
    and_then-small TableNumber (refusal16 s z) _ (unplaced TableNumber 16 _ (inl (omega arith, omega arith))) λ _.
    and_then-small TableNumber (refusal17 s) _ (unplaced TableNumber 17 _ (inl (omega arith, omega arith))) λ _.
    and_then-small TableNumber (refusal18 t s) _ (unplaced TableNumber 18 _ (inl (omega arith, omega arith))) λ _.
    let c = L.counts-fit z (test-clear _ _ fits) in
    and_then-small TableNumber (refusal19 (array_of f t) s z) _ (lowest TableNumber 19 _ _ (inl (omega arith, omega arith)) (omega (arith, n))) λ _.
    and_then-small TableNumber (refusal20 (array_of f t) s z) _ (lowest TableNumber 20 _ _ (inl (omega arith, omega arith)) (omega (arith, c.0))) λ _.
    and_then-small TableNumber (refusal21 (array_of f t) (table_of s z)) _ (lowest TableNumber 21 _ _ (inl (omega arith, omega arith)) (omega (arith, c.1))) λ _.
    and_then-small TableNumber (refusal30 (table_of s z)) _ (lowest TableNumber 30 _ _ (inr (omega arith, omega arith)) (omega (arith, c.1))) λ _.
    lowest TableNumber 31 _ _ (inr (omega arith, omega arith)) (omega (arith, c.1))

pub files-small : (f s : List ℕ) → Small TableNumber (files_refusal f s)
files-small f s =
    and_then-small TableNumber (array_refusal f) _
    (small_by ArrayNumber TableNumber (λ n h. inl (h.0, omega (arith, h.1))) (array_refusal f) (array-small f))
    λ c. table-small f (trailer_of f) s (read-array f c).formed.few_names

-- ---- 22 and 23

pub start_small : (f choices : List ℕ) → Small StartNumber (start_refusal f choices)
start_small f choices =
    and_then-small StartNumber (array_refusal f) (refusal22 choices) (small_by ArrayNumber StartNumber (λ n h. inl h) (array_refusal f) (array-small f))
    λ _. unplaced StartNumber 22 _ (inr (inl refl))

-- refusals 1 to 12, 22 and 23, by the numbers of an entry that has these
lent_by : (P : ℕ → Type 0) → ((n : ℕ) → ArrayNumber n → P n) → P 22 → P 23 → (f choices : List ℕ) (m : Memory) → Small P (lent_refusal f choices m)
lent_by P h p q f choices m =
    and_then-small P (start_refusal f choices) (refusal23 (array_in f) m)
    (and_then-small P (array_refusal f) (refusal22 choices) (small_by ArrayNumber P h (array_refusal f) (array-small f)) λ _. unplaced P 22 _ p)
    λ _. unplaced P 23 _ q

pub lent-step : (f choices : List ℕ) (m : Memory) → Small StepNumber (lent_refusal f choices m)
lent-step = lent_by StepNumber (λ n h. inl h) (inr (omega arith, omega arith)) (inr (omega arith, omega arith))

pub lent-walk : (f choices : List ℕ) (m : Memory) → Small WalkNumber (lent_refusal f choices m)
lent-walk = lent_by WalkNumber (λ n h. inl h) (inr (inl refl)) (inr (inr refl))

-- ---- 24 to 29

abbrev AttemptNumber : {X Y : Type 0} → Answer X Y → Type 0
AttemptNumber (C.refused n) = (22 ≤ n) × (n ≤ 29)
AttemptNumber (next c) = Unit {0}

module _ {X Y : Type 0} where
  unless-number : (b : Bool) (n : ℕ) (x : Answer X Y) → (22 ≤ n) × (n ≤ 29) → AttemptNumber x → AttemptNumber (C.unless b n x)
  unfolding C.unless
  unless-number true n x h k = k
  unless-number false n x h k = h

  agents-number : (p q : Option Agent) (k : Agent → Agent → Answer X Y) → ((x y : Agent) → AttemptNumber (k x y)) → AttemptNumber (on_agents p q k)
  unfolding on_agents
  agents-number none q k h = (omega arith, omega arith)
  agents-number (some p) none k h = (omega arith, omega arith)
  agents-number (some p) (some q) k h = h p q

attempt-number : {X Y : Type 0} (N : Notation X Y) (a : Array) (c : Config X Y) (u : Attempt) → AttemptNumber (attempt N a c u)
unfolding attempt
attempt-number N a c u =
    unless-number _ 24 _ (omega arith, omega arith)
    (agents-number _ _ _ λ p q.
    unless-number _ 25 _ (omega arith, omega arith)
    (unless-number _ 26 _ (omega arith, omega arith) (unless-number _ 27 _ (omega arith, omega arith) tt)))

stops-inj : {k n : ℕ} → stops k ≡ stops n → k ≡ n
stops-inj e = cc

pub leave-stop : {B : Type 0} (m : Memory) (n : ℕ) → leaves m ≡ stops n → B
leave-stop m n e = let z : true ≡ false = cc in absurd (true≢false z)

pub step-number : (a : Array) (m : Memory) (u : Attempt) (n : ℕ) → step_in a m u ≡ stops n → StepNumber n
unfolding step_in on_answer
step-number a m u n = go _ (attempt (words (entries_of m)) a (config_of a m) u) (attempt-number (words (entries_of m)) a (config_of a m) u)
  where
    go : (es : List Entry) (x : Answer ℕ ℕ) → AttemptNumber x → on_answer a m es x ≡ stops n → StepNumber n
    go es (C.refused k) h e = inr (subst (λ (j : ℕ). (22 ≤ j) × (j ≤ 29)) (stops-inj e) h)
    go es (next c) h e = fate (fitted-fate a m c es)
      where
        fate : Fate a m c es (fitted a m c es) → StepNumber n
        fate (crowded q k) = let z : 28 ≡ n = stops-inj (sym q ∙ e) in inr (omega arith, omega arith)
        fate (unlisted q k) = let z : 29 ≡ n = stops-inj (sym q ∙ e) in inr (omega arith, omega arith)
        fate (stored q k l) = leave-stop _ n (sym q ∙ e)

pub start-number : (a : Array) (ch : Choices) (m : Memory) (n : ℕ) → start_in a ch m ≡ stops n → StartNumber n
unfolding start_in
start-number a ch m n e = fate (fitted-fate a m (start (words []) a ch) [])
  where
    fate : Fate a m (start (words []) a ch) [] (fitted a m (start (words []) a ch) []) → StartNumber n
    fate (crowded q k) = inr (inr (sym (stops-inj (sym q ∙ e))))
    fate (unlisted q k) = absurd (omega arith)
    fate (stored q k l) = leave-stop _ n (sym q ∙ e)

-- ---- every number is at most 39

pub table-few : (n : ℕ) → TableNumber n → n ≤ 39
table-few n (inl h) = omega (arith, h.1)
table-few n (inr h) = omega (arith, h.1)

pub mend-few : (n : ℕ) → MendNumber n → n ≤ 39
mend-few n (inl h) = table-few n h
mend-few n (inr h) = omega arith

pub start-few : (n : ℕ) → StartNumber n → n ≤ 39
start-few n (inl h) = omega (arith, h.1)
start-few n (inr (inl h)) = omega arith
start-few n (inr (inr h)) = omega arith

pub step-few : (n : ℕ) → StepNumber n → n ≤ 39
step-few n (inl h) = omega (arith, h.1)
step-few n (inr h) = omega (arith, h.1)

pub walk-few : (n : ℕ) → WalkNumber n → n ≤ 39
walk-few n (inl h) = omega (arith, h.1)
walk-few n (inr (inl h)) = omega arith
walk-few n (inr (inr h)) = omega arith
