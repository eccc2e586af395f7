-- What the engine's calls say of the model: agents of well-formed lists, a pair that was found, steps that are refused or made, and
-- the walk as a chain of turns.
use Prim.Native.Nat.{ℕ, suc, ◌+◌, ◌*◌, ◌-◌, ◌<◌}
use native.Mathlib.Nat.{zero-add, add-zero}
use native.Mathlib.Omega.{arith}
use mathlib.Core.Path.{◌≡◌, refl, sym, ap, ap₂, ◌∙◌, subst}
use mathlib.Core.Logic.{◌⊎◌, inl, inr, ◌≢◌}
use mathlib.Core.Bool.{Bool, true, false, cond, not, ◌&&◌, ◌||◌}
use mathlib.Core.List.{List}
use lib.Dec.{eqb, ltb, leb}
use lib.ListN.{length, get_or, drop}
use borrow.Author.Tests.{eqb-true, eq-eqb, ne_eqb, le-ltb, leb-true, leb-false, not-false}
use Rattle.std.specs.Prelude.{Option, Some, None, Result, Ok, Err}
use Rattle.laws.specs.Search.{hit}
use Rattle.laws.proofs.Search.{or_split, or-false, first-hit, test-hit}
use Rattle.model.specs.Tree.{Array}
use Rattle.model.specs.Calculus.{Choices, Thread, Config, Attempt, choices_of}
use Rattle.model.specs.Formed.{WellFormed}
use Rattle.model.specs.Numbers.{nobody}
use Rattle.model.specs.Memory as M
use Rattle.model.specs.declared.Ending.{Ending}
use Rattle.model.specs.declared.Ending.TheVariants.{Quiet, Spent, Full}
use Rattle.model.specs.Memory.{Memory, thread_in, config_of, entries_of, formed, stops, on_answer, step_in, try}
use Rattle.model.specs.Memory.{ends, more, walk_in, ended, moved, on_result, turn_in, on_found, next_in, resumed, Tells}
use Rattle.model.proofs.Memory.{length-threads, threads-at, thread-at}
use Rattle.model.proofs.Lent.{formed-sound, sound-formed}
use Rattle.model.proofs.Told.{walk-next, next-tells, next-sound}
use Rattle.records.specs.declared.Trailer.{Trailer}
use Rattle.records.specs.declared.Reason.{Reason}
use Rattle.records.specs.Record.{array_of}
use Rattle.ready.specs.declared.Pair.{Pair}
use Rattle.ready.specs.Ready.{meeting, first_meeting, found_pair}
use Rattle.ready.proofs.Attempts.{attempt-24, attempt-refused, first-is}
use Rattle.steps.specs.declared.Fired.{Fired}
use Rattle.lent.specs.declared.Counts.{Counts}
use Rattle.lent.specs.Lent.{lent_of}
use Rattle.steps.specs.Steps.{Fires}
use Rattle.engine.specs.declared.Allowance.{Allowance}
use Rattle.engine.specs.declared.Turn.{Turn}
use Rattle.engine.specs.declared.Stride.{Stride}
use Rattle.engine.specs.declared.Stride.TheVariants.{Ended}
use Rattle.engine.specs.declared.Stride.TheVariants as E
use Rattle.engine.specs.Engine.{Strides, added, walked_of, checked_step}

-- ---- a pair that was found

-- it lies below the count and is ready
pub found-meets : (a : Array) (c : Config ℕ ℕ) (k : ℕ) (ch : Choices) (r s : ℕ) → hit (try ch r s) ≡ first_meeting a c k ch
    → (r < k) × (s < k) × (meeting a (get_or c r nobody) (get_or c s nobody) ≡ 0)
unfolding first_meeting
found-meets a c k ch r s e =
    let x = first-hit k _ (try ch r s) (sym e) in
    let y = first-hit k _ (try ch r s) x.2 in
    let z = test-hit (not (eqb (meeting a (get_or c x.0 nobody) (get_or c y.0 nobody)) 0)) (try ch x.0 y.0) (try ch r s) y.2 in
    let er : x.0 ≡ r = ap (λ (u : Attempt). u.receiver) z.1 in
    let es : y.0 ≡ s = ap (λ (u : Attempt). u.sender) z.1 in
    let m : meeting a (get_or c x.0 nobody) (get_or c y.0 nobody) ≡ 0 = eqb-true _ 0 (not-false _ z.0) in
    let n = subst (λ (j : ℕ). meeting a (get_or c x.0 nobody) (get_or c j nobody) ≡ 0) es m in
    (rw (← er) x.1, rw (← es) y.1, subst (λ (i : ℕ). meeting a (get_or c i nobody) (get_or c s nobody) ≡ 0) er n)

-- ---- lists of an array that was read

module _ (f : List ℕ) (t : Trailer) (l ml : List ℕ) (n : Counts) where
  abbrev a : Array
  a = array_of f t

  abbrev w : ℕ
  w = 2 + t.names

  abbrev m : Memory
  m = lent_of l ml n

  abbrev count : ℕ
  count = n.threads

  abbrev c : Config ℕ ℕ
  c = config_of a m

  len : length c ≡ count
  len = length-threads t.names count l

  -- the search for the first pair
  pub found-is : (ch : Choices) (j : ℕ) (x : Option Pair) → found_pair x ch ≡ first_meeting a c count ch → next_in a ch j m ≡ on_found a j m (found_pair x ch)
  unfolding next_in
  found-is ch j x e = ap (on_found a j m) (sym (first-is a (entries_of m) c ch) ∙ ap (λ (k : ℕ). first_meeting a c k ch) len ∙ sym e)

  module _ (ch : Choices) (j : ℕ) (x : Option Pair) (e : found_pair x ch ≡ first_meeting a c count ch) where
    pub stride-quiet : x ≡ None → next_in a ch j m ≡ ended Quiet
    unfolding on_found
    stride-quiet q = found-is ch j x e ∙ ap (λ (y : Option Pair). on_found a j m (found_pair y ch)) q

    module _ (p : Pair) (q : x ≡ Some p) where
      at_pair_lem : next_in a ch j m ≡ on_found a j m (hit (try ch p.receiver p.sender))
      at_pair_lem = found-is ch j x e ∙ ap (λ (y : Option Pair). on_found a j m (found_pair y ch)) q

      pub stride-spent : j ≡ 0 → next_in a ch j m ≡ ended Spent
      unfolding on_found
      stride-spent d = at_pair_lem ∙ ap (λ (b : Bool). cond b (ended Spent) (turn_in a m (try ch p.receiver p.sender))) (eq-eqb j 0 d)

      pub stride-turn : j ≢ 0 → next_in a ch j m ≡ turn_in a m (try ch p.receiver p.sender)
      unfolding on_found
      stride-turn d = at_pair_lem ∙ ap (λ (b : Bool). cond b (ended Spent) (turn_in a m (try ch p.receiver p.sender))) (ne_eqb j 0 d)

      pub pair-ready : (p.receiver < count) × (p.sender < count)
          × (meeting a (get_or c p.receiver nobody) (get_or c p.sender nobody) ≡ 0)
      pair-ready = found-meets a c count ch p.receiver p.sender (ap (λ (y : Option Pair). found_pair y ch) (sym q) ∙ e)

  module _ (choices : List ℕ) (r s : ℕ) where
    abbrev u : Attempt
    u = try (choices_of choices) r s

    -- a position that is not below the count
    pub step-24 : leb count r || leb count s ≡ true → step_in a m u ≡ stops 24
    unfolding step_in on_answer
    step-24 e = ap (on_answer a m _) (attempt-24 a (entries_of m) c u (past (or_split (leb count r) (leb count s) e)))
      where
        past : (leb count r ≡ true) ⊎ (leb count s ≡ true) → (ltb r (length c) && ltb s (length c)) ≡ false
        past (inl p) = rw (len, le-ltb r count (leb-true count r p))
        past (inr p) = rw (len, le-ltb s count (leb-true count s p)) (fails (ltb r count))
          where
            fails : (b : Bool) → b && false ≡ false
            fails true = refl
            fails false = refl

    pub inside : leb count r || leb count s ≡ false → (r < count) × (s < count)
    inside e = let x = or-false (leb count r) (leb count s) e in (leb-false count r x.0, leb-false count s x.1)

    -- 25 to 27
    pub meeting-is : r < count → s < count → (k : ℕ) → k ≡ meeting a (thread_in t.names (drop (r * w) l)) (thread_in t.names (drop (s * w) l))
        → meeting a (get_or c r nobody) (get_or c s nobody) ≡ k
    meeting-is hr hs k e = ap₂ (meeting a) (threads-at t.names r count l hr) (threads-at t.names s count l hs) ∙ sym e

    pub step-refused : r < count → s < count → (k : ℕ) → k ≡ meeting a (thread_in t.names (drop (r * w) l)) (thread_in t.names (drop (s * w) l))
        → k ≢ 0
        → step_in a m u ≡ stops k
    unfolding step_in on_answer
    step-refused hr hs k e z =
        let j = meeting-is hr hs k e in
        ap (on_answer a m _) (attempt-refused a (entries_of m) c u (rw len hr) (rw len hs) (λ q. z (sym j ∙ q))) ∙ ap stops j

-- ---- the walk as a chain of turns

module _ (a : Array) (ch : Choices) (k : ℕ) (m : Memory) where
  walk-ended : (x : Ending) → next_in a ch k m ≡ ended x → walk_in a ch k m ≡ ends x m
  unfolding resumed
  walk-ended x e = walk-next a ch k m ∙ ap (resumed a ch k m) e

  walk-moved : (u : Attempt) (n : Memory) → next_in a ch k m ≡ moved u n → walk_in a ch k m ≡ more (walk_in a ch (k - 1) n)
  unfolding resumed
  walk-moved u n e = walk-next a ch k m ∙ ap (resumed a ch k m) e

-- ---- steps counted

-- none made yet
pub none-added : (w : M.Walked) → w ≡ added 0 w
none-added w = let e = zero-add w.steps in λ i. record { ending = w.ending; steps = sym e i; left = w.left }

-- n made, and one more
pub one-added : (n : ℕ) (w : M.Walked) → added n (more w) ≡ added (n + 1) w
one-added n w = let e : n + suc w.steps ≡ n + 1 + w.steps = omega arith in λ i. record { ending = w.ending; steps = e i; left = w.left }

-- ---- what a step leaves, as a turn

module _ (f : List ℕ) (t : Trailer) (choices l ml : List ℕ) (n : Counts) (r s : ℕ) where
  abbrev A : Array
  A = array_of f t

  abbrev N : Memory
  N = lent_of l ml n

  abbrev v : Attempt
  v = try (choices_of choices) r s

  pub turn_stopped : (z : Allowance) (e : Result Fired Reason) (k : Reason) (l' ml' : List ℕ) → Fires f t choices l ml n r s e l' ml' → e ≡ Err k
      → Strides A z N (turn_in A N v) (Ended Full) l' ml'
  unfolding turn_in on_result
  turn_stopped z e k l' ml' h q =
      let d = (subst (λ (x : Result Fired Reason). Fires f t choices l ml n r s x l' ml') q h).0 in
      (ap (on_result v) d.0, d.1, d.2)

  pub turn-made : (e : Result Fired Reason) (k : Fired) (l' ml' : List ℕ) → Fires f t choices l ml n r s e l' ml' → e ≡ Ok k
      → (p q : ℕ) → p ≡ get_or l (r * (2 + t.names)) 0 → q ≡ get_or l (s * (2 + t.names)) 0 → r < n.threads → s < n.threads
      → (w z : Allowance) → z ≡ record { allowed = w.allowed; left = w.left - 1 }
      → Strides A w N (turn_in A N v) (E.Made record { receiver = p; sender = q; marker = k.marker; counts = k.counts; allowance = z }) l' ml'
  unfolding turn_in on_result
  turn-made e k l' ml' h z p q ep eq hr hs w b eb =
      let g = subst (λ (x : Result Fired Reason). Fires f t choices l ml n r s x l' ml') z h in (
        v,
        ap (on_result v) g.0,
        record {
          receiver = ep ∙ ap (λ (x : Thread ℕ ℕ). x.agent) (sym (thread-at t.names r n.threads l hr));
          sender = eq ∙ ap (λ (x : Thread ℕ ℕ). x.agent) (sym (thread-at t.names s n.threads l hs));
          marker = g.1;
          threads = refl;
          markers = refl;
          allowance = eb;
        },
      )

-- ---- refusal 23

pub checked-23 : (a : Array) (m : Memory) (u : Attempt) → formed a m ≡ false → checked_step a m u ≡ stops 23
unfolding checked_step
checked-23 a m u e = rw e

pub checked-step : (a : Array) (m : Memory) (u : Attempt) → formed a m ≡ true → checked_step a m u ≡ step_in a m u
unfolding checked_step
checked-step a m u e = rw e

-- ---- the walk's loop: n steps made, those of w left, the lists now m

module _ (a : Array) (ch : Choices) (k : ℕ) (m₀ : Memory) (n : ℕ) (w : Allowance) (l₁ ml₁ : List ℕ) (c : Counts)
    (e : walk_in a ch k m₀ ≡ added n (walk_in a ch w.left (lent_of l₁ ml₁ c))) (x : Stride) (l ml : List ℕ)
    (s : Strides a w (lent_of l₁ ml₁ c) (next_in a ch w.left (lent_of l₁ ml₁ c)) x l ml) where
  abbrev now : Memory
  now = lent_of l₁ ml₁ c

  pub walk_ends : (y : Ending) → x ≡ Ended y → (i : ℕ) → i ≡ n → walked_of record { ending = y; steps = i; counts = c } l ml ≡ walk_in a ch k m₀
  walk_ends y q i p =
      let z = subst (λ (v : Stride). Strides a w now (next_in a ch w.left now) v l ml) q s in
      let o = e ∙ ap (added n) (walk-ended a ch w.left now y z.0) in
      let same : n + 0 ≡ i = add-zero n ∙ sym p in
      sym (o ∙ (λ v. record { ending = y; steps = same v; left = lent_of (sym z.1 v) (sym z.2 v) c }))

  module _ (y : Turn) (q : x ≡ E.Made y) where
    abbrev z : Strides a w now (next_in a ch w.left now) (E.Made y) l ml
    z = subst (λ (v : Stride). Strides a w now (next_in a ch w.left now) v l ml) q s

    pub walk-allowance : y.allowance ≡ record { allowed = w.allowed; left = w.left - 1 }
    walk-allowance = z.2.allowance

    pub walk-allowed : WellFormed a → formed a now ≡ true → 0 < w.left
    walk-allowed wf ok = (subst (Tells a ch w.left now) z.1 (next-tells a wf ch w.left now (formed-sound a now ok))).0

    pub walk-formed : WellFormed a → formed a now ≡ true → formed a (lent_of l ml y.counts) ≡ true
    walk-formed wf ok = sound-formed a _ (next-sound a wf ch w.left now (formed-sound a now ok) z.0 _ z.1)

    pub walk-goes : (d : ℕ) → n + 1 ≡ d → walk_in a ch k m₀ ≡ added d (walk_in a ch y.allowance.left (lent_of l ml y.counts))
    walk-goes d g =
        let f : w.left - 1 ≡ y.allowance.left = ap (λ (v : Allowance). v.left) (sym walk-allowance) in
        e ∙ ap (added n) (walk-moved a ch w.left now z.0 _ z.1) ∙ one-added n _
        ∙ ap₂ (λ (u v : ℕ). added u (walk_in a ch v (lent_of l ml y.counts))) g f
