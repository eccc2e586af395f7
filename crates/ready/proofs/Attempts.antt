-- Two threads that meet, and attempts: `meeting` is the refusal of the model's attempt, and the first meeting is its first ready pair.
use Prim.Native.Nat.{ℕ, ◌<◌}
use native.Mathlib.Omega.{arith}
use mathlib.Core.Path.{◌≡◌, refl, sym, ap, ◌∙◌}
use mathlib.Core.Logic.{◌≢◌}
use mathlib.Core.Bool.{Bool, true, false, not, ◌&&◌}
use mathlib.Core.List.{List, []}
use mathlib.Core.Option.{Option, none, some}
use lib.Dec.{eqb, ltb}
use lib.ListN.{length, get_or}
use borrow.Author.Tests.{lt-ltb, ne_eqb, eq-eqb}
use Rattle.laws.specs.Search.{test}
use Rattle.laws.proofs.Search.{and-join, first-same}
use Rattle.model.specs.Tree.{Array, Agent, agent_at, receives}
use Rattle.model.specs.Calculus.{Notation, Choices, Thread, Config, Attempt, Answer, refused, next, unless, on_agents, cell, stepped, attempt}
use Rattle.model.specs.Numbers.{Entry, nobody}
use Rattle.model.specs.Memory.{words, try, is_next, first_ready}
use Rattle.ready.specs.Ready.{number_of, meeting, first_meeting}

-- what the model checks of two agents, before a step that leaves d
abbrev pub checked : Notation ℕ ℕ → Thread ℕ ℕ → Thread ℕ ℕ → (Agent → Agent → Config ℕ ℕ) → Agent → Agent → Answer ℕ ℕ
checked N x y d p q =
    unless (receives p.sort && not (receives q.sort)) 25
    (unless (eqb (length p.args) (length q.args)) 26
    (unless (N.same (cell N x.env p.channel) (cell N y.env q.channel)) 27 (next (d p q))))

-- ---- numbers of answers

module _ {X C Y D : Type 0} where
  unless-same : (b : Bool) (n : ℕ) (k : Answer X C) (l : Answer Y D) → number_of k ≡ number_of l → number_of (unless b n k) ≡ number_of (unless b n l)
  unfolding unless number_of
  unless-same true n k l e = e
  unless-same false n k l e = refl

  on_agents-same : (x y : Option Agent) (k : Agent → Agent → Answer X C) (l : Agent → Agent → Answer Y D)
      → ((p q : Agent) → number_of (k p q) ≡ number_of (l p q)) → number_of (on_agents x y k) ≡ number_of (on_agents x y l)
  unfolding on_agents number_of
  on_agents-same none y k l h = refl
  on_agents-same (some p) none k l h = refl
  on_agents-same (some p) (some q) k l h = h p q

-- ---- answers by 0 or another number

-- an answer that is refused by no 0
pub data Told {X C : Type 0} (x : Answer X C) : Type 0 where
  made : (d : Config X C) → x ≡ next d → number_of x ≡ 0 → Told x
  stopped : (n : ℕ) → x ≡ refused n → number_of x ≡ n → n ≢ 0 → Told x

module _ {X C : Type 0} where
  unless-told : (b : Bool) (n : ℕ) (k : Answer X C) → n ≢ 0 → Told k → Told (unless b n k)
  unfolding unless number_of
  unless-told true n k h t = t
  unless-told false n k h t = stopped n refl refl h

  unless-pass : (b : Bool) (n : ℕ) (k : Answer X C) → b ≡ true → unless b n k ≡ k
  unfolding unless
  unless-pass b n k e = rw e

  on_agents-told : (x y : Option Agent) (k : Agent → Agent → Answer X C) → ((p q : Agent) → Told (k p q)) → Told (on_agents x y k)
  unfolding on_agents number_of
  on_agents-told none y k h = stopped 25 refl refl (λ e. absurd (omega arith))
  on_agents-told (some p) none k h = stopped 25 refl refl (λ e. absurd (omega arith))
  on_agents-told (some p) (some q) k h = h p q

  next-told : (d : Config X C) → Told (next d)
  unfolding number_of
  next-told d = made d refl refl

module _ (a : Array) (es : List Entry) (c : Config ℕ ℕ) (u : Attempt) where
  abbrev R : Thread ℕ ℕ
  R = get_or c u.receiver nobody

  abbrev S : Thread ℕ ℕ
  S = get_or c u.sender nobody

  -- an attempt is refused by a number that is not 0, or made
  pub attempt-told : Told (attempt (words es) a c u)
  unfolding attempt
  attempt-told =
      unless-told _ 24 _ (λ e. absurd (omega arith))
      (on_agents-told _ _ _ λ p q.
      unless-told _ 25 _ (λ e. absurd (omega arith))
      (unless-told _ 26 _ (λ e. absurd (omega arith)) (unless-told _ 27 _ (λ e. absurd (omega arith)) (next-told _))))

  -- positions that are not below the count
  pub attempt-24 : (ltb u.receiver (length c) && ltb u.sender (length c)) ≡ false → attempt (words es) a c u ≡ refused 24
  unfolding attempt unless
  attempt-24 e = rw e

  checked-same : (d : Agent → Agent → Config ℕ ℕ) (p q : Agent) → number_of (checked (words es) R S d p q) ≡ number_of (checked (words []) R S (λ p q. []) p q)
  unfolding words number_of
  checked-same d p q =
      unless-same (receives p.sort && not (receives q.sort)) 25 _ _
      (unless-same (eqb (length p.args) (length q.args)) 26 _ _
      (unless-same ((words es).same (cell (words es) R.env p.channel) (cell (words es) S.env q.channel)) 27 (next (d p q)) (next []) refl))

  -- else the refusal is that of the two threads
  pub attempt-number : u.receiver < length c → u.sender < length c → number_of (attempt (words es) a c u) ≡ meeting a R S
  unfolding attempt meeting words
  attempt-number hr hs =
      ap number_of
      (unless-pass (ltb u.receiver (length c) && ltb u.sender (length c)) 24
      (on_agents (agent_at a R.agent) (agent_at a S.agent) (checked (words es) R S (stepped (words es) c u)))
      (and-join (lt-ltb u.receiver (length c) hr) (lt-ltb u.sender (length c) hs)))
      ∙ on_agents-same (agent_at a R.agent) (agent_at a S.agent) (checked (words es) R S (stepped (words es) c u)) (checked (words []) R S (λ p q. []))
      (checked-same (stepped (words es) c u))

  pub attempt-made : u.receiver < length c → u.sender < length c → meeting a R S ≡ 0 → (d : Config ℕ ℕ) × (attempt (words es) a c u ≡ next d)
  attempt-made hr hs z = go attempt-told
    where
      go : Told (attempt (words es) a c u) → (d : Config ℕ ℕ) × (attempt (words es) a c u ≡ next d)
      go (made d e n) = (d, e)
      go (stopped n e k h) = absurd (h (sym k ∙ attempt-number hr hs ∙ z))

  pub attempt-refused : u.receiver < length c → u.sender < length c → meeting a R S ≢ 0 → attempt (words es) a c u ≡ refused (meeting a R S)
  attempt-refused hr hs z = go attempt-told
    where
      go : Told (attempt (words es) a c u) → attempt (words es) a c u ≡ refused (meeting a R S)
      go (made d e n) = absurd (z (sym (attempt-number hr hs) ∙ n))
      go (stopped n e k h) = e ∙ ap refused (sym k ∙ attempt-number hr hs)

  next-number : u.receiver < length c → u.sender < length c → is_next (attempt (words es) a c u) ≡ eqb (meeting a R S) 0
  unfolding is_next
  next-number hr hs = go attempt-told
    where
      go : Told (attempt (words es) a c u) → is_next (attempt (words es) a c u) ≡ eqb (meeting a R S) 0
      go (made d e n) = ap is_next e ∙ sym (eq-eqb (meeting a R S) 0 (sym (attempt-number hr hs) ∙ n))
      go (stopped n e k h) = ap is_next e ∙ sym (ne_eqb (meeting a R S) 0 (λ z. h (sym k ∙ attempt-number hr hs ∙ z)))

-- the first meeting is the first ready pair
pub first-is : (a : Array) (es : List Entry) (c : Config ℕ ℕ) (ch : Choices) → first_meeting a c (length c) ch ≡ first_ready (words es) a ch c
unfolding first_meeting first_ready
first-is a es c ch =
    first-same (length c) _ _ λ i hi. first-same (length c) _ _ λ j hj.
    ap (λ (b : Bool). test (not b) (try ch i j)) (sym (next-number a es c (try ch i j) hi hj))
