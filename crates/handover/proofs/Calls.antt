-- The engine's entries: what the engine leaves is what the definitions leave, and what that says in the terms of the calculus.
use Prim.Native.Nat.{ℕ, ◌+◌, ◌-◌, ◌≤◌, ◌<◌}
use native.Mathlib.Omega.{arith}
use mathlib.Core.Path.{◌≡◌, refl, sym, ap, ap₂, ◌∙◌, subst}
use mathlib.Core.Logic.{◌≢◌}
use mathlib.Core.Bool.{Bool, true, false, true≢false}
use mathlib.Core.List.{List, []}
use lib.Dec.{eqb}
use lib.ListN.{length}
use borrow.Author.Tests.{eq-eqb, ne_eqb}
use Rattle.std.specs.Prelude as P
use Rattle.std.specs.Prelude.{Ok, Err}
use Rattle.laws.specs.Search.{Found, clear, hit, test}
use Rattle.laws.proofs.Search.{clear-hit, test-clear, clear-test, hit-test, and_then-join, hit-and_then, clear-and_then}
use Rattle.model.specs.Tree.{Array}
use Rattle.model.specs.Formed as F
use Rattle.model.specs.Formed.{WellFormed}
use Rattle.model.specs.Calculus.{Choices, Attempt, choices_of}
use Rattle.model.specs.declared.Ending.{Ending}
use Rattle.model.specs.Memory.{Memory, formed, refusal22, refusal23, Result, stops, leaves, start_in, step_in, try}
use Rattle.model.specs.Memory.{Next, ended, moved, next_in, resumed, more, walk_in, Tells}
use Rattle.model.proofs.Lent.{Sound, formed-sound, sound-formed}
use Rattle.model.proofs.Engine.{step_follows, step-sound, start-follows, start-sound, walk-follows}
use Rattle.model.proofs.Told.{walk-next, moved-inj, ended-moved, moved-allowed, next-tells, next-sound}
use Rattle.records.specs.declared.Refusal.{Refusal}
use Rattle.records.specs.declared.Reason.{Reason}
use Rattle.records.specs.declared.Reason.TheVariants as W
use Rattle.records.specs.declared.Trailer.{Trailer}
use Rattle.records.specs.Record.{number_of, told, array_of}
use Rattle.arrays.specs.File.{array_refusal, read_array}
use Rattle.arrays.proofs.Laws.{read-passes, read-refuses, read_is}
use Rattle.steps.specs.declared.Fired.{Fired}
use Rattle.model.specs.Memory.{memory}
use Rattle.lent.specs.declared.Counts.{Counts}
use Rattle.lent.specs.Lent.{lent_of}
use Rattle.steps.specs.Steps.{FiredAs}
use Rattle.engine.specs.declared.Allowance.{Allowance}
use Rattle.engine.specs.declared.Stride.{Stride}
use Rattle.engine.specs.declared.Stride.TheVariants as T
use Rattle.engine.specs.declared.Turn.{Turn}
use Rattle.engine.specs.declared.Walk.{Walk}
use Rattle.engine.specs.Engine.{checked_step, TurnOf, Strides, WalkedAs, Turns}
use Rattle.handover.specs.declared.Told.{Told}
use Rattle.handover.specs.declared.Told.TheVariants.{Made, Ended}
use Rattle.handover.specs.Front.{array_in}
use Rattle.handover.specs.Engine.{left, left_unless, result_left, counts_in, walk_left, start_refusal, lent_refusal}
use Rattle.handover.specs.Engine.{unchanged, Followed, over, then}
use Rattle.handover.specs.Engine.{Left, start_of, step_of, walk_of, next_left, stride_of}
use Rattle.handover.specs.Engine.{StartPromise, StepPromise, WalkPromise, StridePromise}
use Rattle.handover.specs.Bodies.{told_of, Admitted}
use Rattle.handover.specs.Refusals.{Reply, done, refused, said, StartNumber, StepNumber, WalkNumber}
use Rattle.handover.proofs.Refusals.{Small, start_small, lent-step, lent-walk, start-number, step-number}

-- ---- refusals 1 to 12 and 22

module _ (f choices : List ℕ) where
  pub admit-refused : (r : Refusal) → read_array f ≡ Err (told r) → start_refusal f choices ≡ hit (told r)
  admit-refused r e = hit-and_then (array_refusal f) (refusal22 choices) _ (read-refuses f (told r) e)

  pub admit-22 : (t : Trailer) → read_array f ≡ Ok t → length choices ≢ 128 → start_refusal f choices ≡ hit (told record { reason = W.Choices; place = 0 })
  admit-22 t e n =
      clear-and_then (array_refusal f) (refusal22 choices) (read-passes f t e).0 ∙ hit-test (eqb (length choices) 128) _ (ne_eqb (length choices) 128 n)

  pub admit-read : (g : List ℕ) (t : Trailer) → g ≡ f → read_array f ≡ Ok t → length choices ≡ 128 → Admitted f choices g t
  admit-read g t b e n = record {
    bytes = b;
    passes = and_then-join (array_refusal f) (refusal22 choices) (read-passes f t e).0 (clear-test (eqb (length choices) 128) _ (eq-eqb (length choices) 128 n));
    trailer = (read-passes f t e).1;
    many = n;
    read = read_is f t e;
  }

-- ---- what a start or a step leaves, of which f is told

module _ {A : Type 0} (f : Memory → A) where
  abbrev says_fired : P.Result Fired Reason → List ℕ → List ℕ → Reply A
  says_fired (Err n) l ml = refused (number_of n) 0
  says_fired (Ok x) l ml = done (f (lent_of l ml x.counts))

  result_left_lem : (m : Memory) (r : Result) (e : P.Result Fired Reason) (l ml : List ℕ) → FiredAs m r e l ml → left (says_fired e l ml) l ml ≡ result_left f m r
  result_left_lem m r (Err n) l ml h = let a = h.1 in let b = h.2 in (λ i. left (refused (number_of n) 0) (a i) (b i)) ∙ ap (result_left f m) (sym h.0)
  result_left_lem m r (Ok x) l ml h = ap (result_left f m) (sym h)

  -- refusal 23 first
  step-checked : (a : Array) (m : Memory) (u : Attempt) → left_unless (refusal23 a m) m (result_left f m (step_in a m u)) ≡ result_left f m (checked_step a m u)
  unfolding checked_step test
  step-checked a m u = go (formed a m) refl
    where
      go : (b : Bool) → formed a m ≡ b → left_unless (refusal23 a m) m (result_left f m (step_in a m u)) ≡ result_left f m (checked_step a m u)
      go true e = rw e
      go false e = rw e

-- ---- one turn of the walk

ended-inj : {x y : Ending} → ended x ≡ ended y → x ≡ y
ended-inj e = cc

module _ (a : Array) (w : Allowance) (m : Memory) (l ml : List ℕ) where
  pub turn-left : (x : Next) (e : Stride) → Strides a w m x e l ml → left (done (told_of e (w.allowed - w.left))) l ml ≡ next_left a m w x
  unfolding next_left
  turn-left (ended x) (T.Ended y) h =
      let b = h.1 in let d = h.2 in let z = ended-inj (sym h.0) in λ i. left (done (Ended (z i) (w.allowed - w.left))) (b i) (d i)
  turn-left (ended x) (T.Made y) h = ended-moved x h.0 _ h.1
  turn-left (moved u n) (T.Ended y) h = ended-moved y u n (sym h.0)
  turn-left (moved u n) (T.Made y) h =
      let p = moved-inj h.1 in
      let t = subst (λ (v : Attempt). TurnOf a w m v (lent_of l ml y.counts) y) (sym p.0) h.2 in
      let e = t.allowance in
      (λ i. left (done (Made record { receiver = t.receiver i; sender = t.sender i; marker = t.marker i; counts = y.counts; allowance = e i })) l ml)
      ∙ ap (λ (x : Memory). next_left a m w (moved u x)) (sym p.1)

told-inj : (x y : Turn) → ◌≡◌ {A = Reply Told} (done (Made x)) (done (Made y)) → x ≡ y
told-inj x y e = cc

-- the reply of an equation
reply-of : {A : Type 0} {r : Reply A} {l ml : List ℕ} {o : Left A} → left r l ml ≡ o → r ≡ o.reply
reply-of {A} e = ap (λ (o : Left A). o.reply) e

-- ---- refusals are listed

-- the number that a reply refuses by
module _ {A : Type 0} (P : ℕ → Type 0) (n p : ℕ) where
  unless-listed : (x : Found F.Refusal) (m : Memory) (o : Left A) → Small P x → (o.reply ≡ refused n p → P n) → (left_unless x m o).reply ≡ refused n p → P n
  unless-listed clear m o h k e = k e
  unless-listed (hit r) m o h k e = let z : r.number ≡ n = cc in subst P z (h r refl).0

  result-listed : (f : Memory → A) (m : Memory) (r : Result) → ((k : ℕ) → r ≡ stops k → P k) → (result_left f m r).reply ≡ refused n p → P n
  result-listed f m (stops k) h e = let z : k ≡ n = cc in subst P z (h k refl)
  result-listed f m (leaves k) h e = let z : true ≡ false = cc in absurd (true≢false z)

module _ (f choices : List ℕ) (m : Memory) (n p : ℕ) where
  start-listed : (start_of f choices m).reply ≡ refused n p → StartNumber n
  unfolding start_of
  start-listed =
      unless-listed StartNumber n p (start_refusal f choices) m _ (start_small f choices)
      (result-listed StartNumber n p _ m (start_in (array_in f) (choices_of choices) m) (start-number (array_in f) (choices_of choices) m))

  step-listed : (r s : ℕ) → (step_of f choices m r s).reply ≡ refused n p → StepNumber n
  unfolding step_of
  step-listed r s =
      unless-listed StepNumber n p (lent_refusal f choices m) m _ (lent-step f choices m)
      (result-listed StepNumber n p _ m (step_in (array_in f) m (try (choices_of choices) r s)) (step-number (array_in f) m (try (choices_of choices) r s)))

  walk-listed : (allowed : ℕ) → (walk_of f choices m allowed).reply ≡ refused n p → WalkNumber n
  unfolding walk_of
  walk-listed allowed =
      unless-listed WalkNumber n p (lent_refusal f choices m) m _ (lent-walk f choices m) λ e. let z : true ≡ false = cc in absurd (true≢false z)

  stride-listed : (w : Allowance) → (stride_of f choices m w).reply ≡ refused n p → WalkNumber n
  unfolding stride_of next_left
  stride-listed w =
      unless-listed WalkNumber n p (lent_refusal f choices m) m _ (lent-walk f choices m) (go (next_in (array_in f) (choices_of choices) w.left m))
    where
      go : (x : Next) → (next_left (array_in f) m w x).reply ≡ refused n p → WalkNumber n
      go (ended x) e = let z : true ≡ false = cc in absurd (true≢false z)
      go (moved u k) e = let z : true ≡ false = cc in absurd (true≢false z)

-- ---- a walk followed by strides

module _ (f choices : List ℕ) where
  abbrev A' : Array
  A' = array_in f

  abbrev C' : Choices
  C' = choices_of choices

  -- an ending that is told
  stride-over : (m : Memory) (w : Allowance) (x : Ending) (s : ℕ) → stride_of f choices m w ≡ unchanged (done (Ended x s)) m
      → (lent_refusal f choices m ≡ clear) × (next_in A' C' w.left m ≡ ended x) × (s ≡ w.allowed - w.left)
  unfolding stride_of next_left
  stride-over m w x s e = go (lent_refusal f choices m) (next_in A' C' w.left m) (ap (λ (o : Left Told). o.reply) e)
    where
      go : (y : Found F.Refusal) (z : Next) → (left_unless y m (next_left A' m w z)).reply ≡ done (Ended x s)
          → (y ≡ clear) × (z ≡ ended x) × (s ≡ w.allowed - w.left)
      go (hit r) z q = let b : true ≡ false = cc in absurd (true≢false b)
      go clear (ended v) q = let b : v ≡ x = cc in let d : w.allowed - w.left ≡ s = cc in (refl, ap ended b, sym d)
      go clear (moved u n) q = let b : true ≡ false = cc in absurd (true≢false b)

  -- a step that is told
  stride-then : (m : Memory) (w : Allowance) (t : Turn) (ts ms : List ℕ) → stride_of f choices m w ≡ left (done (Made t)) ts ms
      → (lent_refusal f choices m ≡ clear) × (u : Attempt) × (next_in A' C' w.left m ≡ moved u (lent_of ts ms t.counts))
      × (t.allowance ≡ record { allowed = w.allowed; left = w.left - 1 })
  unfolding stride_of next_left
  stride-then m w t ts ms e = go (lent_refusal f choices m) (next_in A' C' w.left m) e
    where
      go : (v : Found F.Refusal) (z : Next) → left_unless v m (next_left A' m w z) ≡ left (done (Made t)) ts ms
          → (v ≡ clear) × (u : Attempt) × (z ≡ moved u (lent_of ts ms t.counts)) × (t.allowance ≡ record { allowed = w.allowed; left = w.left - 1 })
      go (hit o) z e = let g = ap (λ (o : Left Told). o.reply) e in let b : true ≡ false = cc in absurd (true≢false b)
      go clear (ended x) e = let g = ap (λ (o : Left Told). o.reply) e in let b : true ≡ false = cc in absurd (true≢false b)
      go clear (moved u n) e =
          let told = told-inj _ t (ap (λ (o : Left Told). o.reply) e) in
          let threads = ap (λ (o : Left Told). o.threads) e in
          let markers = ap (λ (o : Left Told). o.markers) e in
          (refl, u, ap (moved u) (λ i. lent_of (threads i) (markers i) (told i).counts), sym (ap (λ (x : Turn). x.allowance) told))

  -- what is told is the walk from here, and the steps told are those made since
  followed-walk : (m : Memory) (w : Allowance) (n : ℕ) (x : Ending) (s : ℕ) (e : Memory) → w.left ≤ w.allowed → Followed f choices m w n x s e
      → (lent_refusal f choices m ≡ clear) × (walk_in A' C' w.left m ≡ record { ending = x; steps = n; left = e }) × (s ≡ w.allowed - w.left + n)
  unfolding resumed
  followed-walk m w n x s e h (over m' w' x' s' q) =
      let o = stride-over m' w' x' s' q in
      (o.0, walk-next A' C' w'.left m' ∙ ap (resumed A' C' w'.left m') o.1, omega (arith, o.2))
  followed-walk m w n x s e h (then m' w' t ts ms g n' x' s' e' rest) =
      let o = stride-then m' w' t ts ms g in
      let some = moved-allowed A' C' w'.left m' o.1 _ o.2 in
      let less : t.allowance.left ≡ w'.left - 1 = ap (λ (v : Allowance). v.left) o.3 in
      let all : t.allowance.allowed ≡ w'.allowed = ap (λ (v : Allowance). v.allowed) o.3 in
      let r = followed-walk (lent_of ts ms t.counts) t.allowance n' x' s' e' (omega (arith, h, some, less, all)) rest in (
        o.0,
        walk-next A' C' w'.left m' ∙ ap (resumed A' C' w'.left m') o.2
            ∙ ap (λ (i : ℕ). more (walk_in A' C' i (lent_of ts ms t.counts))) (sym less) ∙ ap more r.1,
        omega (arith, r.2, some, less, all, h),
      )

  stride-whole : (m : Memory) (w : Allowance) → w.left ≡ w.allowed → (n : ℕ) (x : Ending) (s : ℕ) (e : Memory) → Followed f choices m w n x s e
      → (walk_of f choices m w.allowed ≡ walk_left record { ending = x; steps = s; left = e }) × (n ≡ s)
  unfolding walk_of
  stride-whole m w full n x s e t =
      let o = followed-walk m w n x s e (omega (arith, full)) t in
      let same : n ≡ s = omega (arith, o.2, full) in (
        rw o.0 (ap walk_left (ap (λ (k : ℕ). walk_in A' C' k m) (sym full) ∙ o.1 ∙ λ i. record { ending = x; steps = same i; left = e })),
        same,
      )

-- ---- the promises, where an array was admitted

-- an answer that refuses before anything else
module _ (f choices : List ℕ) (r : Refusal) (e : start_refusal f choices ≡ hit (told r)) where
  not-lent : (m : Memory) → lent_refusal f choices m ≡ hit (told r)
  not-lent m = hit-and_then (start_refusal f choices) (refusal23 (array_in f) m) _ e

  pub start-not : (l : List ℕ) → StartPromise f choices (memory l 0 [] 0) (Err r) l
  unfolding start_of
  start-not l =
      let o : left (refused (number_of r.reason) r.place) l [] ≡ start_of f choices (memory l 0 [] 0) = rw e in
      record {
        leaves = o;
        starts = λ c. clear-hit _ (sym c ∙ e);
        formed = λ c. clear-hit _ (sym c ∙ e);
        listed = λ n p q. start-listed f choices _ n p (sym (reply-of o) ∙ q);
      }

  pub step-not : (l ml : List ℕ) (n : Counts) (p q : ℕ) → StepPromise f choices (lent_of l ml n) p q (Err r) l ml
  unfolding step_of
  step-not l ml n p q =
      let h = not-lent (lent_of l ml n) in
      let o : left (refused (number_of r.reason) r.place) l ml ≡ step_of f choices (lent_of l ml n) p q = rw h in
      record {
        leaves = o;
        follows = λ c. clear-hit _ (sym c ∙ h);
        formed = λ c. clear-hit _ (sym c ∙ h);
        listed = λ k i z. step-listed f choices _ k i p q (sym (reply-of o) ∙ z);
      }

  pub walk-not : (l ml : List ℕ) (n : Counts) (allowed : ℕ) → WalkPromise f choices (lent_of l ml n) allowed (Err r) l ml
  unfolding walk_of
  walk-not l ml n allowed =
      let h = not-lent (lent_of l ml n) in
      let o : left (refused (number_of r.reason) r.place) l ml ≡ walk_of f choices (lent_of l ml n) allowed = rw h in
      record {
        leaves = o;
        walks = λ c. clear-hit _ (sym c ∙ h);
        ends = λ c. clear-hit _ (sym c ∙ h);
        formed = λ c. clear-hit _ (sym c ∙ h);
        listed = λ k p q. walk-listed f choices _ k p allowed (sym (reply-of o) ∙ q);
      }

  pub stride-not : (l ml : List ℕ) (n : Counts) (w : Allowance) → StridePromise f choices (lent_of l ml n) w (Err r) l ml
  unfolding stride_of
  stride-not l ml n w =
      let h = not-lent (lent_of l ml n) in
      let o : left (refused (number_of r.reason) r.place) l ml ≡ stride_of f choices (lent_of l ml n) w = rw h in
      record {
        leaves = o;
        tells = walk-next (array_in f) (choices_of choices) w.left (lent_of l ml n);
        whole = stride-whole f choices (lent_of l ml n) w;
        follows = λ c. clear-hit _ (sym c ∙ h);
        formed = λ c. clear-hit _ (sym c ∙ h);
        listed = λ k p q. stride-listed f choices _ k p w (sym (reply-of o) ∙ q);
      }

module _ (f choices g : List ℕ) (t : Trailer) (ok : Admitted f choices g t) where
  abbrev a : Array
  a = array_in f

  abbrev ch : Choices
  ch = choices_of choices

  same : array_of g t ≡ a
  same = ap₂ array_of ok.bytes (sym ok.trailer)

  wf : WellFormed a
  wf = subst (λ (y : Trailer). WellFormed (array_of f y)) (sym ok.trailer) ok.read.formed

  -- only 23 is left to refuse
  lent_is : (m : Memory) → lent_refusal f choices m ≡ refusal23 a m
  lent_is m = clear-and_then (start_refusal f choices) (refusal23 a m) ok.passes

  lent-formed : (m : Memory) → lent_refusal f choices m ≡ clear → formed a m ≡ true
  lent-formed m c = test-clear (formed a m) _ (sym (lent_is m) ∙ c)

  lent-sound : (m : Memory) → lent_refusal f choices m ≡ clear → Sound a m
  lent-sound m c = formed-sound a m (lent-formed m c)

  -- start
  module _ (l : List ℕ) (e : P.Result Fired Reason) (l' : List ℕ) (h : FiredAs (memory l 0 [] 0) (start_in (array_of g t) ch (memory l 0 [] 0)) e l' []) where
    abbrev m₀ : Memory
    m₀ = memory l 0 [] 0

    start-by : (x : P.Result ℕ Refusal) → said x ≡ says_fired (λ n. n.thread_count) e l' [] → StartPromise f choices m₀ x l'
    unfolding start_of
    start-by x q =
        let h₀ = subst (λ (y : Array). FiredAs m₀ (start_in y ch m₀) e l' []) same h in
        let o : left (said x) l' [] ≡ start_of f choices m₀ =
        ap (λ (y : Reply ℕ). left y l' []) q ∙ result_left_lem (λ n. n.thread_count) m₀ (start_in a ch m₀) e l' [] h₀ ∙ rw ok.passes in
        record {
          leaves = o;
          starts = λ c. start-follows a wf ch m₀;
          formed = λ c k z. sound-formed a k (start-sound a wf ch m₀ k z);
          listed = λ i p z. start-listed f choices m₀ i p (sym (reply-of o) ∙ z);
        }

    pub start-stopped : (w : Reason) → e ≡ Err w → StartPromise f choices m₀ (Err record { reason = w; place = 0 }) l'
    start-stopped w q = start-by (Err record { reason = w; place = 0 }) (rw q)

    pub start-started : (x : Fired) → e ≡ Ok x → StartPromise f choices m₀ (Ok x.counts.threads) l'
    start-started x q = start-by (Ok x.counts.threads) (rw q)

  -- step
  module _ (l ml : List ℕ) (n : Counts) (r s : ℕ) (e : P.Result Fired Reason) (l' ml' : List ℕ)
      (h : FiredAs (lent_of l ml n) (checked_step (array_of g t) (lent_of l ml n) (try ch r s)) e l' ml') where
    abbrev m : Memory
    m = lent_of l ml n

    abbrev u : Attempt
    u = try ch r s

    step_by : (x : P.Result Counts Refusal) → said x ≡ says_fired counts_in e l' ml' → StepPromise f choices m r s x l' ml'
    unfolding step_of
    step_by x q =
        let o : left (said x) l' ml' ≡ step_of f choices m r s =
        ap (λ (y : Reply Counts). left y l' ml') q
        ∙ result_left_lem counts_in m (checked_step a m u) e l' ml' (subst (λ (y : Array). FiredAs m (checked_step y m u) e l' ml') same h)
        ∙ sym (step-checked counts_in a m u)
        ∙ ap (λ (y : Found F.Refusal). left_unless y m (result_left counts_in m (step_in a m u))) (sym (lent_is m)) in
        record {
          leaves = o;
          follows = λ c. step_follows a wf m (lent-sound m c) u;
          formed = λ c x z. sound-formed a x (step-sound a wf m (lent-sound m c) u x z);
          listed = λ n p z. step-listed f choices m n p r s (sym (reply-of o) ∙ z);
        }

    pub step-stopped : (w : Reason) → e ≡ Err w → StepPromise f choices m r s (Err record { reason = w; place = 0 }) l' ml'
    step-stopped w q = step_by (Err record { reason = w; place = 0 }) (rw q)

    pub step-made : (x : Fired) → e ≡ Ok x → StepPromise f choices m r s (Ok x.counts) l' ml'
    step-made x q = step_by (Ok x.counts) (rw q)

  -- walk
  module _ (l ml : List ℕ) (n : Counts) (allowed : ℕ) (e : P.Result Walk Reason) (l' ml' : List ℕ)
      (h : WalkedAs (array_of g t) ch allowed (lent_of l ml n) e l' ml') where
    abbrev v : Memory
    v = lent_of l ml n

    h₁ : WalkedAs a ch allowed v e l' ml'
    h₁ = subst (λ (x : Array). WalkedAs x ch allowed v e l' ml') same h

    pub walk-stopped : (i : Reason) → e ≡ Err i → WalkPromise f choices v allowed (Err record { reason = i; place = 0 }) l' ml'
    unfolding walk_of test
    walk-stopped i q =
        let z = subst (λ (x : P.Result Walk Reason). WalkedAs a ch allowed v x l' ml') q h₁ in
        let b = z.2 in
        let d = z.3 in
        let o : left (refused (number_of i) 0) l' ml' ≡ walk_of f choices v allowed = (λ y. left (refused (z.0 y) 0) (b y) (d y)) ∙ rw (lent_is v, z.1) in
        record {
          leaves = o;
          walks = λ c. absurd (true≢false (sym (lent-formed v c) ∙ z.1));
          ends = λ c. absurd (true≢false (sym (lent-formed v c) ∙ z.1));
          formed = λ c. absurd (true≢false (sym (lent-formed v c) ∙ z.1));
          listed = λ k p q. walk-listed f choices v k p allowed (sym (reply-of o) ∙ q);
        }

    pub walk-walked : (w : Walk) → e ≡ Ok w → WalkPromise f choices v allowed (Ok w) l' ml'
    unfolding walk_of test
    walk-walked w q =
        let z = subst (λ (x : P.Result Walk Reason). WalkedAs a ch allowed v x l' ml') q h₁ in
        let o : left (done w) l' ml' ≡ walk_of f choices v allowed = ap walk_left z.1 ∙ rw (lent_is v, z.0) in
        record {
          leaves = o;
          walks = λ c. (walk-follows a wf ch allowed v (lent-sound v c)).walks;
          ends = λ c. (walk-follows a wf ch allowed v (lent-sound v c)).ending;
          formed = λ c. sound-formed a _ (walk-follows a wf ch allowed v (lent-sound v c)).sound;
          listed = λ k p q. walk-listed f choices v k p allowed (sym (reply-of o) ∙ q);
        }

  -- stride
  module _ (l ml : List ℕ) (n : Counts) (w : Allowance) (e : P.Result Stride Reason) (l' ml' : List ℕ)
      (h : Turns (array_of g t) ch w (lent_of l ml n) e l' ml') where
    abbrev o : Memory
    o = lent_of l ml n

    h₂ : Turns a ch w o e l' ml'
    h₂ = subst (λ (x : Array). Turns x ch w o e l' ml') same h

    stride-by : (x : P.Result Told Refusal) → left (said x) l' ml' ≡ stride_of f choices o w → StridePromise f choices o w x l' ml'
    stride-by x q = record {
      leaves = q;
      tells = walk-next a ch w.left o;
      whole = stride-whole f choices o w;
      follows = λ c. next-tells a wf ch w.left o (lent-sound o c);
      formed = λ c u n z. sound-formed a n (next-sound a wf ch w.left o (lent-sound o c) u n z);
      listed = λ n p z. stride-listed f choices o n p w (sym (reply-of q) ∙ z);
    }

    pub stride-stopped : (i : Reason) → e ≡ Err i → StridePromise f choices o w (Err record { reason = i; place = 0 }) l' ml'
    unfolding stride_of test
    stride-stopped i q =
        let z = subst (λ (x : P.Result Stride Reason). Turns a ch w o x l' ml') q h₂ in
        let b = z.2 in
        let d = z.3 in
        stride-by (Err record { reason = i; place = 0 }) ((λ y. left (refused (z.0 y) 0) (b y) (d y)) ∙ rw (lent_is o, z.1))

    pub stride-strode : (x : Stride) → e ≡ Ok x → StridePromise f choices o w (Ok (told_of x (w.allowed - w.left))) l' ml'
    unfolding stride_of test
    stride-strode x q =
        let z = subst (λ (y : P.Result Stride Reason). Turns a ch w o y l' ml') q h₂ in
        stride-by (Ok (told_of x (w.allowed - w.left))) (turn-left a w o l' ml' (next_in a ch w.left o) x z.1 ∙ rw (lent_is o, z.0))

-- ---- a step that is told leaves one step less

pub stride-less : (f choices : List ℕ) (m : Memory) (w : Allowance) (x : P.Result Told Refusal) (l ml : List ℕ) → StridePromise f choices m w x l ml
    → (t : Turn) → x ≡ Ok (Made t) → t.allowance.left < w.left
unfolding stride_of next_left
stride-less f choices m w x l ml p t q =
    go (lent_refusal f choices m) refl (next_in (array_in f) (choices_of choices) w.left m) p.follows
    (ap said (sym q) ∙ reply-of p.leaves)
  where
    go : (x : Found F.Refusal) → lent_refusal f choices m ≡ x → (y : Next)
        → (lent_refusal f choices m ≡ clear → Tells (array_in f) (choices_of choices) w.left m y)
        → done (Made t) ≡ (left_unless x m (next_left (array_in f) m w y)).reply → t.allowance.left < w.left
    go (hit r) c y h e = let z : true ≡ false = cc in absurd (true≢false z)
    go clear c (ended x) h e = let z : true ≡ false = cc in absurd (true≢false z)
    go clear c (moved u n) h e = let z : t.allowance.left ≡ w.left - 1 = ap (λ (x : Turn). x.allowance.left) (told-inj t _ e) in omega (arith, z, (h c).0)
