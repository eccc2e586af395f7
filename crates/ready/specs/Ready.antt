-- Whether two threads are ready, and the first pair that is.
use Rattle.std.specs.Prelude.{ℕ, ◌+◌, ◌*◌, ◌<◌, ◌≤◌, ◌≡◌, true, false, cond, not, ◌&&◌, List, [], eqb, length, get_or, drop}
use Rattle.std.specs.Prelude.{Option, Some, None, Result, Ok, Err}
use Rattle.laws.specs.Search.{Found, clear, hit, test, first}
use Rattle.model.specs.Tree.{Array, node_at, is_agent, agent_at, receives}
use Rattle.model.specs.Calculus.{Thread, Config, Choices, Attempt, Answer, refused, next, unless, on_agents, cell}
use Rattle.model.specs.Numbers.{nobody}
use Rattle.model.specs.Memory.{words, thread_in, try, is_out}
use Rattle.records.specs.declared.Trailer.{Trailer}
use Rattle.records.specs.declared.Reason.{Reason}
use Rattle.records.specs.Record as R
use Rattle.records.specs.Record.{record_of, node_of, array_of}
use Rattle.records.specs.Kinds.{is_receiver}
use Rattle.ready.specs.declared.Act.{Act}
use Rattle.ready.specs.declared.Senders.{Senders}
use Rattle.ready.specs.declared.Pair.{Pair}

-- a refusal by its number, 0 where there is none
unfoldable pub number_of : {X C : Type 0} → Answer X C → ℕ
number_of (refused n) = n
number_of (next c) = 0

-- what the code answers of a pair, by a refusal's number, 0 where there is none
abbrev pub told : Result (Unit {0}) Reason → ℕ
told (Ok u) = 0
told (Err r) = R.number_of r

-- 25 to 27, or 0 where receiver r and sender s are ready
unfoldable pub meeting : Array → Thread ℕ ℕ → Thread ℕ ℕ → ℕ
meeting a r s =
    number_of
    (on_agents {X = ℕ} {C = ℕ} (agent_at a r.agent) (agent_at a s.agent) λ p q.
    unless (receives p.sort && not (receives q.sort)) 25
    (unless (eqb (length p.args) (length q.args)) 26
    (unless ((words []).same (cell (words []) r.env p.channel) (cell (words []) s.env q.channel)) 27 (next []))))

-- ---- the same by records

-- what a thread does, as its agent's record says
abbrev pub act_of : List ℕ → Trailer → Thread ℕ ℕ → Act
act_of s t x = record {
  receives = is_receiver (node_of (record_of s t x.agent));
  sends = is_out (node_of (record_of s t x.agent));
  arity = (record_of s t x.agent).arity;
  channel = get_or x.env (record_of s t x.agent).name 0;
}

-- thread i lies in the list, and is an agent's
pub record Acts (s : List ℕ) (t : Trailer) (l : List ℕ) (i : ℕ) : Type 0 where
  pub inside : i * (2 + t.names) + (2 + t.names) ≤ length l
  pub agent : is_agent (node_at (array_of s t) (get_or l (i * (2 + t.names)) 0)) ≡ true

-- thread i of a list of words
abbrev pub act_at : List ℕ → Trailer → List ℕ → ℕ → Act
act_at s t l i = act_of s t (thread_in t.names (drop (i * (2 + t.names)) l))

-- 25 to 27, or 0, by what the two threads do
unfoldable pub meet : Act → Act → ℕ
meet p q =
    cond (p.receives && q.sends)
    (cond (eqb p.arity q.arity) (cond (not (eqb p.channel 0) && eqb p.channel q.channel) 0 27) 26) 25

-- none of the first s threads is ready with receiver p
abbrev pub NoneReady : List ℕ → Trailer → List ℕ → Act → ℕ → Type 0
NoneReady file t l p s = (j : ℕ) → j < s → eqb (meet p (act_at file t l j)) 0 ≡ false

-- the first of k threads that is ready with receiver p, where there is one
abbrev pub FirstSender : List ℕ → Trailer → List ℕ → ℕ → Act → Option ℕ → Type 0
FirstSender file t l k p None = NoneReady file t l p k
FirstSender file t l k p (Some s) = (s < k) × NoneReady file t l p s × (eqb (meet p (act_at file t l s)) 0 ≡ true)

-- the first n numbers of xs are positions below i in rising order, and each of the first i threads that sends is one of them
pub record Noted (file : List ℕ) (t : Trailer) (l : List ℕ) (i : ℕ) (xs : List ℕ) (n : ℕ) : Type 0 where
  pub few : n ≤ i
  pub below : (k : ℕ) → k < n → get_or xs k 0 < i
  pub rising : (j k : ℕ) → j < k → k < n → get_or xs j 0 < get_or xs k 0
  pub whole : (j : ℕ) → j < i → (act_at file t l j).sends ≡ true → (k : ℕ) × (k < n) × (get_or xs k 0 ≡ j)

-- the senders noted are those of the threads seen, the first ones of k
abbrev pub Seen : List ℕ → Trailer → List ℕ → ℕ → Senders → Type 0
Seen file t l k s = (s.seen ≤ k) × (length s.at ≡ 256) × Noted file t l s.seen s.at s.noted

-- ---- the first pair

-- the first ready pair, as an attempt under any choices
unfoldable pub first_meeting : Array → Config ℕ ℕ → ℕ → Choices → Found Attempt
first_meeting a c k ch = first k λ r. first k λ s. test (not (eqb (meeting a (get_or c r nobody) (get_or c s nobody)) 0)) (try ch r s)

abbrev pub found_pair : Option Pair → Choices → Found Attempt
found_pair None ch = clear
found_pair (Some p) ch = hit (try ch p.receiver p.sender)
