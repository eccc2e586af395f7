-- The walk told step by step: what it does next is the first step of the whole walk, is a step or an ending of the calculus, and keeps
-- what refusal 23 asks.
use Prim.Native.Nat.{ℕ, zero, suc, ◌-◌, ◌<◌}
use native.Mathlib.Omega.{arith}
use mathlib.Core.Path.{◌≡◌, refl, sym, ap, ap₂, ◌∙◌, subst}
use mathlib.Core.Logic.{◌⊎◌, inl, inr}
use mathlib.Core.Bool.{Bool, true, false, cond, true≢false}
use mathlib.Core.List.{List}
use mathlib.Core.Option.{none, some}
use lib.Dec.{eqb}
use lib.ListN.{get_or, get_or-map}
use borrow.Author.Tests.{eqb-true, eqb-false, ne_eqb}
use Rattle.laws.specs.Search.{Found, clear, hit}
use Rattle.laws.proofs.Search.{decided}
use Rattle.model.specs.Tree.{Array, agent_at}
use Rattle.model.specs.Formed.{WellFormed}
use Rattle.model.specs.Calculus.{Marker, Cell, calculus, Choices, Thread, Config, Attempt, no_thread, marker_of}
use Rattle.model.specs.Numbers.{Entry, decode_to, decode, nobody, markers_after}
use Rattle.model.specs.declared.Ending.{Ending}
use Rattle.model.specs.declared.Ending.TheVariants.{Quiet, Spent, Full}
use Rattle.model.specs.Memory.{Memory, words, config_of, entries_of, Result, stops, leaves, step_in, first_ready, stands_for}
use Rattle.model.specs.Memory.{ends, more, on_pair, on_step, walk_in, marker_made, ended, moved, on_result, turn_in, on_found, next_in, resumed}
use Rattle.model.specs.Memory.{Turned, Tells}
use Rattle.model.proofs.Stepped.{Meet, attempt-next}
use Rattle.model.proofs.Words.{decoded, marker-stands}
use Rattle.model.proofs.Lent.{Sound}
use Rattle.model.proofs.Engine.{fits, first-decoded, no_room, step-made, step-sound, step-entries, step-stands}

-- ---- the walk is what it does next, and the walk from there

pub walk-next : (a : Array) (ch : Choices) (k : ℕ) (m : Memory) → walk_in a ch k m ≡ resumed a ch k m (next_in a ch k m)
unfolding walk_in next_in resumed on_pair on_step on_found turn_in on_result
walk-next a ch zero m = go (first_ready (words (entries_of m)) a ch (config_of a m))
  where
    go : (x : Found Attempt) → on_pair x (ends Quiet m) (λ u. ends Spent m) ≡ resumed a ch 0 m (on_found a 0 m x)
    go clear = refl
    go (hit u) = refl
walk-next a ch (suc k) m = go (first_ready (words (entries_of m)) a ch (config_of a m))
  where
    same : suc k - 1 ≡ k
    same = omega arith

    step : (u : Attempt) (r : Result) → on_step r (ends Full m) (λ n. more (walk_in a ch k n)) ≡ resumed a ch (suc k) m (on_result u r)
    step u (stops n) = refl
    step u (leaves n) = ap (λ (j : ℕ). more (walk_in a ch j n)) (sym same)

    go : (x : Found Attempt) → on_pair x (ends Quiet m) (λ u. on_step (step_in a m u) (ends Full m) (λ n. more (walk_in a ch k n)))
        ≡ resumed a ch (suc k) m (on_found a (suc k) m x)
    go clear = refl
    go (hit u) = rw (ne_eqb (suc k) 0 (λ e. absurd (omega arith))) (step u (step_in a m u))

-- ---- one step more, in the terms of the calculus

module _ (a : Array) (wf : WellFormed a) (m : Memory) (s : Sound a m) (u : Attempt) where
  abbrev es : List Entry
  es = entries_of m

  abbrev c : Config ℕ ℕ
  c = config_of a m

  abbrev R : Thread ℕ ℕ
  R = get_or c u.receiver nobody

  abbrev S : Thread ℕ ℕ
  S = get_or c u.sender nobody

  -- a thread of the lists, and what it stands for
  thread-stands : (i : ℕ) → get_or (stands_for a m) i (no_thread calculus) ≡ decoded es (get_or c i nobody)
  unfolding stands_for calculus decode decode_to
  thread-stands i = get_or-map (decoded es) c i nobody

  module _ (n : Memory) (r : step_in a m u ≡ leaves n) where
    meet : Meet (words es) a c u
    meet = let x = step-made a wf m s u n r in (attempt-next (words es) a c u x.0 x.1).0

    acts : agent_at a R.agent ≡ some meet.p
    unfolding words
    acts = meet.receiver

    told_is : marker_made a m u ≡ marker_of (words es) meet.p.sort R S
    unfolding marker_made
    told_is = ap (λ y. elim y [ none ↦ 0 | some p ↦ marker_of (words es) p.sort R S ]) acts

    stands : decode (markers_after a es c u) (marker_of (words es) meet.p.sort R S) ≡ marker_of calculus meet.p.sort (decoded es R) (decoded es S)
    unfolding words
    stands = marker-stands a es s.listed c (fits a wf m s) u meet.p meet.receiver

    pub turned : (ch : Choices) → first_ready calculus a ch (stands_for a m) ≡ hit u → Turned a ch m u n
    turned ch e = record {
      first = e;
      steps = step-stands a wf m s u n r;
      receiver = meet.p;
      acts = ap (λ (t : Thread Marker Cell). agent_at a t.agent) (thread-stands u.receiver) ∙ acts;
      marker =
          ap₂ decode (step-entries a wf m s u n r) told_is ∙ stands
          ∙ sym (ap₂ (marker_of calculus meet.p.sort) (thread-stands u.receiver) (thread-stands u.sender));
    }

-- ---- what a walk does next

pub moved-inj : {u v : Attempt} {m n : Memory} → moved u m ≡ moved v n → (u ≡ v) × (m ≡ n)
moved-inj e = (cc, cc)

pub ended-moved : {B : Type 0} (x : Ending) (u : Attempt) (n : Memory) → ended x ≡ moved u n → B
ended-moved x u n e = let z : true ≡ false = cc in absurd (true≢false z)

module _ (a : Array) (wf : WellFormed a) (ch : Choices) (k : ℕ) (m : Memory) (s : Sound a m) where
  abbrev ready : Found Attempt
  ready = first_ready (words (entries_of m)) a ch (config_of a m)

  found : {u : Attempt} → ready ≡ hit u → first_ready calculus a ch (stands_for a m) ≡ hit u
  found e = sym (first-decoded a wf m s ch) ∙ e

  pub next-tells : Tells a ch k m (next_in a ch k m)
  unfolding next_in on_found turn_in on_result
  next-tells = go ready refl
    where
      turn : 0 < k → (u : Attempt) → ready ≡ hit u → (r : Result) → step_in a m u ≡ r → Tells a ch k m (on_result u r)
      turn h u e (stops n) q = (h, (u, found e, no_room a wf ch m s u n (found e) q))
      turn h u e (leaves n) q = (h, turned a wf m s u n q ch (found e))

      pick : (u : Attempt) → ready ≡ hit u → (eqb k 0 ≡ true) ⊎ (eqb k 0 ≡ false) → Tells a ch k m (cond (eqb k 0) (ended Spent) (turn_in a m u))
      pick u e (inl z) = rw z (sym (eqb-true k 0 z), (u, found e))
      pick u e (inr z) = rw z (turn (let h = eqb-false k 0 z in omega arith) u e (step_in a m u) refl)

      go : (x : Found Attempt) → ready ≡ x → Tells a ch k m (on_found a k m x)
      go clear e = sym (first-decoded a wf m s ch) ∙ e
      go (hit u) e = pick u e (decided (eqb k 0))

  -- a step keeps what refusal 23 asks
  pub next-sound : (u : Attempt) (n : Memory) → next_in a ch k m ≡ moved u n → Sound a n
  unfolding next_in on_found turn_in on_result
  next-sound u n = go ready
    where
      made : (v : Attempt) (r : Result) → step_in a m v ≡ r → on_result v r ≡ moved u n → Sound a n
      made v (stops j) q z = ended-moved Full u n z
      made v (leaves j) q z = subst (Sound a) (moved-inj z).1 (step-sound a wf m s v j q)

      pick : (b : Bool) (v : Attempt) → cond b (ended Spent) (turn_in a m v) ≡ moved u n → Sound a n
      pick true v z = ended-moved Spent u n z
      pick false v z = made v (step_in a m v) refl z

      go : (x : Found Attempt) → on_found a k m x ≡ moved u n → Sound a n
      go clear z = ended-moved Quiet u n z
      go (hit v) z = pick (eqb k 0) v z

-- a step was allowed where one was made
pub moved-allowed : (a : Array) (ch : Choices) (k : ℕ) (m : Memory) (u : Attempt) (n : Memory) → next_in a ch k m ≡ moved u n → 0 < k
unfolding next_in on_found
moved-allowed a ch zero m u n e = go (first_ready (words (entries_of m)) a ch (config_of a m)) e
  where
    go : (x : Found Attempt) → on_found a 0 m x ≡ moved u n → 0 < 0
    go clear q = ended-moved Quiet u n q
    go (hit v) q = ended-moved Spent u n q
moved-allowed a ch (suc k) m u n e = omega arith
