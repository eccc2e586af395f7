-- The step of a ready pair on lent lists: its two threads, the marker, what it leaves, and what a call answers and leaves.
use Rattle.std.specs.Prelude.{ℕ, ◌+◌, ◌*◌, ◌≤◌, ◌<◌, ◌≡◌, true, List, [], ◌∷◌, ◌++◌, map, length, get_or, take, drop}
use Rattle.std.specs.Prelude as P
use Rattle.std.specs.Prelude.{Some, None, Ok, Err}
use Rattle.laws.specs.Lists.{All}
use Rattle.model.specs.Calculus.{Thread, Config, bind, keep, choices_of, marker_of}
use Rattle.model.specs.Numbers.{Entry, list_after}
use Rattle.model.specs.Memory.{Memory, Result, stops, leaves, words, threads_in, entries_in, is_out, is_resource, fitted, step_in, try, marker_made}
use Rattle.records.specs.declared.Trailer.{Trailer}
use Rattle.records.specs.declared.Reason.{Reason}
use Rattle.records.specs.Record.{number_of, record_of, args_of, sort_of, node_of, array_of}
use Rattle.records.specs.Kinds.{is_receiver}
use Rattle.arrays.specs.Agents.{Reads}
use Rattle.markers.specs.declared.Entry as E
use Rattle.markers.specs.Markers.{entry_of}
use Rattle.unfolds.specs.Unfold.{unfolded}
use Rattle.threads.specs.Threads.{remains}
use Rattle.lent.specs.declared.Counts.{Counts}
use Rattle.lent.specs.Lent.{lent_of}
use Rattle.steps.specs.declared.Meeting.{Meeting}
use Rattle.steps.specs.declared.NextMarker.{NextMarker}
use Rattle.steps.specs.declared.Fired.{Fired}

-- ---- a meeting

-- thread i of a list of words
abbrev pub thread_at : Trailer → List ℕ → ℕ → Thread ℕ ℕ
thread_at t l i = record {
  agent = get_or l (i * (2 + t.names)) 0;
  marker = get_or l (i * (2 + t.names) + 1) 0;
  env = take t.names (drop (i * (2 + t.names) + 2) l);
}

-- it lies in the list, at a small index, and its agent is a node
pub record Lies (t : Trailer) (l : List ℕ) (i : ℕ) : Type 0 where
  pub inside : i * (2 + t.names) + (2 + t.names) ≤ length l
  pub small : i * (2 + t.names) + (2 + t.names) ≤ 66048
  pub node : get_or l (i * (2 + t.names)) 0 < t.nodes

-- a receiver and a sender of equal arity among the threads in use
pub record Met (t : Trailer) (l : List ℕ) (n : Counts) (m : Meeting) : Type 0 where
  pub fits : n.threads * (2 + t.names) ≤ length l
  pub few : n.threads ≤ 256
  pub listed : n.markers ≤ 4096
  pub nodes : t.nodes ≤ 1024
  pub receiver : m.receiver < n.threads
  pub sender : m.sender < n.threads
  pub at : Lies t l m.receiver
  pub from : Lies t l m.sender
  pub marker : (thread_at t l m.receiver).marker ≤ n.markers
  pub other : (thread_at t l m.sender).marker ≤ n.markers
  pub receives : is_receiver (node_of m.p) ≡ true
  pub sends : is_out (node_of m.q) ≡ true
  pub arities : m.p.arity ≡ m.q.arity

-- and p and q are the records of their agents
pub record Meets (f : List ℕ) (t : Trailer) (l : List ℕ) (n : Counts) (m : Meeting) : Type 0 where
  pub met : Met t l n m
  pub reads : Reads f t (thread_at t l m.receiver).agent m.p
  pub other : Reads f t (thread_at t l m.sender).agent m.q

-- what the parameters' binding asks of them: as many arguments as parameters, and names of the array
pub record Binds (t : Trailer) (l : List ℕ) (m : Meeting) : Type 0 where
  pub at : Lies t l m.receiver
  pub from : Lies t l m.sender
  pub arities : m.p.arity ≡ m.q.arity
  pub few : m.p.arity ≤ 8
  pub params : All (λ y. y < t.names) (args_of m.p)
  pub args : All (λ z. z < t.names) (args_of m.q)

abbrev pub meeting_at : List ℕ → Trailer → List ℕ → ℕ → ℕ → Meeting
meeting_at f t l r s = record { receiver = r; sender = s; p = record_of f t (thread_at t l r).agent; q = record_of f t (thread_at t l s).agent }

-- ---- its marker

-- the entry of a resource's new marker, from the words of the threads at `at` and `from`
abbrev pub entry_at : List ℕ → ℕ → ℕ → Entry
entry_at l at from = record { resource = get_or l at 0; out = get_or l from 0; left = get_or l (at + 1) 0; right = get_or l (from + 1) 0 }

-- the marker number of the receiver's continuation, and the entries after the step
abbrev pub marker_for : Trailer → List ℕ → List Entry → Meeting → ℕ
marker_for t l es m = marker_of (words es) (sort_of m.p) (thread_at t l m.receiver) (thread_at t l m.sender)

abbrev pub entries_for : Trailer → List ℕ → List Entry → Meeting → List Entry
entries_for t l es m = list_after es (sort_of m.p) (thread_at t l m.receiver) (thread_at t l m.sender)

-- the entries, and one more where there is one to be added
abbrev pub with_added : List Entry → P.Option E.Entry → List Entry
with_added es None = es
with_added es (Some e) = es ++ (entry_of e ∷ [])

-- a marker tells both
pub record MarkerTold (t : Trailer) (l : List ℕ) (es : List Entry) (m : Meeting) (x : NextMarker) : Type 0 where
  pub number : x.number ≡ marker_for t l es m
  pub small : x.number < 65536
  pub entries : entries_for t l es m ≡ with_added es x.added

-- ---- its threads

-- the receiver's environment with the parameters bound
abbrev pub bound_env : Trailer → List ℕ → Meeting → List ℕ
bound_env t l m = bind (args_of m.p) (map (λ z. get_or (thread_at t l m.sender).env z 0) (args_of m.q)) (thread_at t l m.receiver).env

-- the environments of the two continuations
pub record Bound (t : Trailer) (l : List ℕ) (m : Meeting) (near far : List ℕ) : Type 0 where
  pub sent : far ≡ (thread_at t l m.sender).env
  pub bound : near ≡ bound_env t l m

-- the threads after the step of the first k threads, the receiver's continuation under marker number x
unfoldable pub advanced : List ℕ → Trailer → List ℕ → List ℕ → ℕ → Meeting → ℕ → Config ℕ ℕ
advanced f t choices l k m x =
    keep (remains (is_resource (node_of m.p)) m.receiver m.sender) (threads_in t.names k l)
    ++ (unfolded f t choices m.p.left x (bound_env t l m)
    ++ unfolded f t choices m.q.left (thread_at t l m.sender).marker (thread_at t l m.sender).env)

-- ---- what a call answers and leaves

-- a step's answer and both lists at exit are those of a result: the counts and the lists that it leaves, or its refusal and the lists
-- as they were
abbrev pub FiredAs : Memory → Result → P.Result Fired Reason → List ℕ → List ℕ → Type 0
FiredAs m r (Err e) l ml = (r ≡ stops (number_of e)) × (l ≡ m.threads) × (ml ≡ m.markers)
FiredAs m r (Ok x) l ml = r ≡ leaves (lent_of l ml x.counts)

-- and a step that is made tells the marker number
abbrev pub UnderMarker : ℕ → P.Result Fired Reason → Type 0
UnderMarker x (Err e) = Unit {0}
UnderMarker x (Ok y) = y.marker ≡ x

-- the step of a meeting
abbrev pub Makes : List ℕ → Trailer → List ℕ → List ℕ → List ℕ → Counts → Meeting → P.Result Fired Reason → List ℕ → List ℕ → Type 0
Makes f t choices l ml n m e l' ml' =
    let es = entries_in n.markers ml in
    let x = marker_for t l es m in
    let lent = lent_of l ml n in
    FiredAs lent (fitted (array_of f t) lent (advanced f t choices l n.threads m x) (entries_for t l es m)) e l' ml' × UnderMarker x e

-- the step of threads r and s
abbrev pub Fires : List ℕ → Trailer → List ℕ → List ℕ → List ℕ → Counts → ℕ → ℕ → P.Result Fired Reason → List ℕ → List ℕ → Type 0
Fires f t choices l ml n r s e l' ml' =
    let a = array_of f t in
    let m = lent_of l ml n in
    let u = try (choices_of choices) r s in
    FiredAs m (step_in a m u) e l' ml' × UnderMarker (marker_made a m u) e
