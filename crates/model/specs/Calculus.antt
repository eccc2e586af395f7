-- The calculus: configurations and steps, over any way to write markers and cells (01, "Configurations and steps").
use Rattle.std.specs.Prelude.{ℕ, suc, ◌/◌, ◌%◌, Bool, true, false, cond, not, ◌&&◌, ◌||◌, List, [], ◌∷◌, ◌++◌, map, eqb, ltb, length, get_or, set, replicate}
use Rattle.std.proofs.Math.Option.{Option, none, some}
use Rattle.laws.specs.Bits.{bit}
use Rattle.model.specs.Tree.{Array, Sort, out, inp, resource, Proc, stop, new, par, choice, agent, Agent, agent_at, proc_at, is_free, receives}

-- ---- markers and cells

-- "A marker is empty or a node of (resource, out, marker, marker)."
pub data Marker : Type 0 where
  empty : Marker
  node : ℕ → ℕ → Marker → Marker → Marker

-- a name's cell in a thread: nothing, or an opening, "the new that opened it and its marker"
pub data Cell : Type 0 where
  unheld : Cell
  holds : ℕ → Marker → Cell

-- How markers (X) and cells (C) are written. The calculus writes them as they are; lent memory writes numbers.
pub record Notation (X C : Type 0) : Type 0 where
  pub empty : X
  pub node : ℕ → ℕ → X → X → X
  pub unheld : C
  pub holds : ℕ → X → C
  pub same : C → C → Bool  -- both hold the same opening under the same marker

unfoldable pub same_marker : Marker → Marker → Bool
same_marker empty empty = true
same_marker empty (node r o m n) = false
same_marker (node r o m n) empty = false
same_marker (node r o m n) (node s p k l) = eqb r s && eqb o p && same_marker m k && same_marker n l

-- equal openings
unfoldable pub same_cell : Cell → Cell → Bool
same_cell unheld d = false
same_cell (holds n m) unheld = false
same_cell (holds n m) (holds o k) = eqb n o && same_marker m k

unfoldable pub calculus : Notation Marker Cell
calculus = record { empty = Marker.empty; node = Marker.node; unheld = Cell.unheld; holds = Cell.holds; same = same_cell }

-- ---- choices

-- the way that each choice node takes: false to the left, true to the right
abbrev pub Choices : Type 0
Choices = ℕ → Bool

-- "Bit n (byte n / 8, weight 2^(n mod 8)) of the choice bytes takes choice node n to the right"
unfoldable pub choices_of : List ℕ → Choices
choices_of bytes n = bit (get_or bytes (n / 8) 0) (n % 8)

-- ---- configurations

-- "A thread is an agent node, a marker and, for each name free in that agent, an opening"; the cells stand by name
pub record Thread (X C : Type 0) : Type 0 where
  pub agent : ℕ
  pub marker : X
  pub env : List C

-- "A configuration is a list of threads."
abbrev pub Config : Type 0 → Type 0 → Type 0
Config X C = List (Thread X C)

-- "receiver and sender position, of any size, and 128 choice bytes"
pub record Attempt : Type 0 where
  pub receiver : ℕ
  pub sender : ℕ
  pub choices : Choices

-- a refusal by its number, 24 to 27, or the next configuration
pub data Answer (X C : Type 0) : Type 0 where
  refused : ℕ → Answer X C
  next : Config X C → Answer X C

-- "The sender goes; an in goes, a resource stays."
unfoldable pub stays : Sort → ℕ → ℕ → ℕ → Bool
stays out r s i = not (eqb i s)
stays inp r s i = not (eqb i r || eqb i s)
stays resource r s i = not (eqb i s)

-- parameters take the cells that were sent
unfoldable pub bind : {C : Type 0} → List ℕ → List C → List C → List C
bind [] cs e = e
bind (y ∷ ys) [] e = e
bind (y ∷ ys) (c ∷ cs) e = set (bind ys cs e) y c

module _ {X C : Type 0} where
  -- the threads at the positions that stay, in order
  unfoldable pub keep : (ℕ → Bool) → Config X C → Config X C
  keep f [] = []
  keep f (t ∷ ts) = cond (f 0) (t ∷ keep (λ i. f (suc i)) ts) (keep (λ i. f (suc i)) ts)

  -- refusal n where a test fails
  unfoldable pub unless : Bool → ℕ → Answer X C → Answer X C
  unless true n k = k
  unless false n k = refused n

  -- the two threads' agents, or 25
  unfoldable pub on_agents : Option Agent → Option Agent → (Agent → Agent → Answer X C) → Answer X C
  on_agents none q k = refused 25
  on_agents (some p) none k = refused 25
  on_agents (some p) (some q) k = k p q

  -- "An attempt that 24 to 27 would refuse leaves it as it is; any other makes its step."
  unfoldable pub after : Answer X C → Config X C → Config X C
  after (refused n) c = c
  after (next d) c = d

module _ {X C : Type 0} (N : Notation X C) where
  abbrev pub no_thread : Thread X C
  no_thread = record { agent = 0; marker = N.empty; env = [] }

  -- a name's cell
  abbrev pub cell : List C → ℕ → C
  cell e v = get_or e v N.unheld

  -- the cells from name v on, cut to the free names
  unfoldable pub cut_from : (ℕ → Bool) → ℕ → List C → List C
  cut_from f v [] = []
  cut_from f v (c ∷ cs) = cond (f v) c N.unheld ∷ cut_from f (suc v) cs

  -- "stop gives nothing; new n binds n to (n, that marker); par gives left then right; choice gives one side; an agent gives
  -- one thread, its names cut to the free ones"
  unfoldable pub unfold_proc : Choices → X → List C → Proc → Config X C
  unfold_proc ch m e stop = []
  unfold_proc ch m e (new n p) = unfold_proc ch m (set e n (N.holds n m)) p
  unfold_proc ch m e (par p q) = unfold_proc ch m e p ++ unfold_proc ch m e q
  unfold_proc ch m e (choice i p q) = cond (ch i) (unfold_proc ch m e q) (unfold_proc ch m e p)
  unfold_proc ch m e (agent i s x ys p) = record { agent = i; marker = m; env = cut_from (is_free (agent i s x ys p)) 0 e } ∷ []

  -- "under its own marker, or for a resource under (resource, out, resource's marker, sender's marker)"
  unfoldable pub marker_of : Sort → Thread X C → Thread X C → X
  marker_of out r s = r.marker
  marker_of inp r s = r.marker
  marker_of resource r s = N.node r.agent s.agent r.marker s.marker

  -- what agent q of thread s sends
  abbrev pub sent_cells : Thread X C → Agent → List C
  sent_cells s q = map (λ y. cell s.env y) q.args

  -- what receiver r, with agent p, becomes: its continuation "with parameters bound to what was sent"
  unfoldable pub receiver_leaves : Choices → Thread X C → Thread X C → Agent → Agent → Config X C
  receiver_leaves ch r s p q = unfold_proc ch (marker_of p.sort r s) (bind p.args (sent_cells s q) r.env) p.body

  -- "The sender's continuation keeps its marker."
  unfoldable pub sender_leaves : Choices → Thread X C → Agent → Config X C
  sender_leaves ch s q = unfold_proc ch s.marker s.env q.body

  -- "After a step: old threads in order, then the receiver's, then the sender's"
  unfoldable pub stepped : Config X C → Attempt → Agent → Agent → Config X C
  stepped c t p q =
      let r = get_or c t.receiver no_thread in
      let s = get_or c t.sender no_thread in
      keep (stays p.sort t.receiver t.sender) c ++ (receiver_leaves t.choices r s p q ++ sender_leaves t.choices s q)

  -- 24: a position is not below the thread count; 25: the receiver is no in or resource, or the sender no out;
  -- 26: arities differ; 27: the two channels differ in opening or in marker
  unfoldable pub attempt : Array → Config X C → Attempt → Answer X C
  attempt a c t =
      let r = get_or c t.receiver no_thread in
      let s = get_or c t.sender no_thread in
      unless (ltb t.receiver (length c) && ltb t.sender (length c)) 24
      (on_agents (agent_at a r.agent) (agent_at a s.agent) λ p q.
      unless (receives p.sort && not (receives q.sort)) 25
      (unless (eqb (length p.args) (length q.args)) 26
      (unless (N.same (cell r.env p.channel) (cell s.env q.channel)) 27
      (next (stepped c t p q)))))

  -- "The start unfolds node 0 under the empty marker."
  unfoldable pub start : Array → Choices → Config X C
  start a ch = unfold_proc ch N.empty (replicate a.names N.unheld) (proc_at a 0)

  -- "Each gets the configuration that the last one left, and nothing else changes it."
  unfoldable pub attempts : Array → Config X C → List Attempt → Config X C
  attempts a c [] = c
  attempts a c (t ∷ ts) = attempts a (after (attempt a c t) c) ts

  -- "Reachable is what such a list leaves."
  unfoldable pub run : Array → Choices → List Attempt → Config X C
  run a ch ts = attempts a (start a ch) ts
