-- Two threads by their agents' records: what the model's refusals 25 to 27 of them are, and the search for the first ready pair.
use Prim.Native.Nat.{ℕ, ◌+◌, ◌*◌, ◌<◌}
use native.Mathlib.Omega.{arith}
use mathlib.Core.Path.{◌≡◌, refl, sym, ap, ap₂, ◌∙◌}
use mathlib.Core.Bool.{Bool, true, false, cond, not, ◌&&◌}
use mathlib.Core.List.{List, []}
use mathlib.Core.Option.{Option, some}
use lib.Dec.{eqb}
use lib.ListN.{length, get_or, drop}
use Rattle.std.specs.Prelude.{Some}
use Rattle.laws.specs.Search.{Found, clear, hit, test, first}
use Rattle.laws.proofs.Search.{clear-test, hit-test, first-here, clear_first}
use Rattle.model.specs.Tree.{node_at, Agent, agent_at, receives, is_agent}
use Rattle.model.specs.Calculus.{Thread, Choices, Attempt, next, unless, on_agents}
use Rattle.model.specs.Numbers.{nobody}
use Rattle.model.specs.Memory.{words, thread_in, threads_in, try, is_out}
use Rattle.model.proofs.Tree.{agent-inside}
use Rattle.model.proofs.Memory.{threads-at, agent-word}
use Rattle.records.specs.declared.Trailer.{Trailer}
use Rattle.records.specs.Record.{record_of, args_of, sort_of, node_of, array_of}
use Rattle.records.specs.Kinds.{is_receiver}
use Rattle.records.proofs.KindLaws as K
use Rattle.arrays.specs.File.{IsRead}
use Rattle.arrays.specs.Agents.{agent_in, Reads}
use Rattle.arrays.proofs.Agents.{node-is, agent-is, arity-is, name_below}
use Rattle.ready.specs.declared.Act.{Act}
use Rattle.ready.specs.Ready.{Acts, number_of, meeting, act_of, act_at, meet, NoneReady, FirstSender}
use Rattle.ready.proofs.Attempts.{checked}

-- ---- the number of a refusal

number-of : (a b c : Bool) → number_of (unless {X = ℕ} {C = ℕ} a 25 (unless b 26 (unless c 27 (next [])))) ≡ cond a (cond b (cond c 0 27) 26) 25
unfolding number_of unless
number-of true true true = refl
number-of true true false = refl
number-of true false c = refl
number-of false b c = refl

module _ (s : List ℕ) (t : Trailer) (read : IsRead s t) where
  -- the record of an agent's node
  module _ (i : ℕ) (agent : is_agent (node_at (array_of s t) i) ≡ true) where
    reads : Reads s t i (record_of s t i)
    reads = record { below = agent-inside (array_of s t) i agent; is = refl }

    acts : is_agent (node_of (record_of s t i)) ≡ true
    acts = ap is_agent (sym (node-is read reads)) ∙ agent

    pub agent-name : (record_of s t i).name < t.names
    agent-name = name_below read reads acts

    found : agent_at (array_of s t) i ≡ some (agent_in (array_of s t) (record_of s t i))
    found = agent-is read reads acts

    length-args : length (args_of (record_of s t i)) ≡ (record_of s t i).arity
    length-args = arity-is read reads

  -- the model's number for two threads is that of their records
  pub met : (x y : Thread ℕ ℕ) → is_agent (node_at (array_of s t) x.agent) ≡ true → is_agent (node_at (array_of s t) y.agent) ≡ true
      → meeting (array_of s t) x y ≡ meet (act_of s t x) (act_of s t y)
  unfolding meeting on_agents words meet
  met x y hx hy =
      let p = record_of s t x.agent in
      let q = record_of s t y.agent in
      let one : receives (sort_of p) && not (receives (sort_of q)) ≡ is_receiver (node_of p) && is_out (node_of q) =
      sym (ap₂ ◌&&◌ (K.agent-sort p (acts x.agent hx)).0 (K.agent-sort q (acts y.agent hy)).1) in
      let two : eqb (length (args_of p)) (length (args_of q)) ≡ eqb p.arity q.arity =
      ap₂ eqb (length-args x.agent hx) (length-args y.agent hy) in
      let three : Bool = not (eqb (get_or x.env p.name 0) 0) && eqb (get_or x.env p.name 0) (get_or y.env q.name 0) in
      ap₂ (λ (o r : Option Agent). number_of (on_agents o r (checked (words []) x y (λ p q. [])))) (found x.agent hx) (found y.agent hy)
      ∙ number-of _ _ _ ∙ (λ i. cond (one i) (cond (two i) (cond three 0 27) 26) 25)

-- ---- searches

-- what is no in or resource is ready with no sender
pub no-receiver : (p q : Act) → p.receives ≡ false → eqb (meet p q) 0 ≡ false
unfolding meet
no-receiver p q h = rw h

-- the model's number for threads r and q of a list of words
abbrev number : List ℕ → Trailer → List ℕ → ℕ → ℕ → ℕ → ℕ
number s t l count r q = meeting (array_of s t) (get_or (threads_in t.names count l) r nobody) (get_or (threads_in t.names count l) q nobody)

-- the search for receiver r's sender
abbrev pub row : List ℕ → Trailer → List ℕ → ℕ → Choices → ℕ → Found Attempt
row s t l count ch r = first count (λ q. test (not (eqb (number s t l count r q) 0)) (try ch r q))

-- a thread that lies in the list, as the model reads it
pub agent-acts : {s : List ℕ} {t : Trailer} {l : List ℕ} {i : ℕ} → Acts s t l i
    → is_agent (node_at (array_of s t) (thread_in t.names (drop (i * (2 + t.names)) l)).agent) ≡ true
agent-acts {s} {t} {l} {i} h = ap (λ (j : ℕ). is_agent (node_at (array_of s t) j)) (agent-word t.names (i * (2 + t.names)) l) ∙ h.agent

module _ (s : List ℕ) (t : Trailer) (l : List ℕ) (count : ℕ)
    (agents : (i : ℕ) → i < count → is_agent (node_at (array_of s t) (get_or l (i * (2 + t.names)) 0)) ≡ true) where
  -- thread i of the list has an agent, as the model reads it
  pub agent-here : (i : ℕ) → i < count → is_agent (node_at (array_of s t) (thread_in t.names (drop (i * (2 + t.names)) l)).agent) ≡ true
  agent-here i h = ap (λ (j : ℕ). is_agent (node_at (array_of s t) j)) (agent-word t.names (i * (2 + t.names)) l) ∙ agents i h

  module _ (read : IsRead s t) (r : ℕ) (h : r < count) where
    pair-at : (q : ℕ) → q < count → number s t l count r q ≡ meet (act_at s t l r) (act_at s t l q)
    pair-at q k =
        ap₂ (meeting (array_of s t)) (threads-at t.names r count l h) (threads-at t.names q count l k)
        ∙ met s t read _ _ (agent-here r h) (agent-here q k)

    module _ (ch : Choices) where
      passed : (q : ℕ) → NoneReady s t l (act_at s t l r) q
          → (j : ℕ) → j < q → j < count → test (not (eqb (number s t l count r j) 0)) (try ch r j) ≡ clear
      passed q f j lt k = clear-test _ (try ch r j) (ap (λ (m : ℕ). not (eqb m 0)) (pair-at j k) ∙ ap not (f j lt))

      pub row-hit : (q : ℕ) → FirstSender s t l count (act_at s t l r) (Some q) → row s t l count ch r ≡ hit (try ch r q)
      row-hit q f =
          first-here _ q count (try ch r q) (clear_first q _ (λ j lt. passed q f.1 j lt (let k = f.0 in omega arith)))
          (hit-test _ (try ch r q) (ap (λ (m : ℕ). not (eqb m 0)) (pair-at q f.0) ∙ ap not f.2)) f.0

      pub row-clear : NoneReady s t l (act_at s t l r) count → row s t l count ch r ≡ clear
      row-clear f = clear_first count _ (λ j lt. passed count f j lt lt)
