-- Lent memory: threads as words, markers as entries of four numbers; refusals 22 and 23; start, step and walk on such lists, with
-- the limits of 28 and 29 (01, "Configurations and steps").
use Rattle.std.specs.Prelude.{ℕ, zero, suc, ◌+◌, ◌*◌, ◌-◌, ◌/◌, ◌%◌, ◌<◌, min, ◌≡◌, ◌⊎◌, Bool, true, false, cond, not, ◌&&◌, List, [], ◌∷◌, ◌++◌, map, eqb, leb, length, get_or, take, drop}
use Rattle.std.proofs.Math.Option.{none, some}
use Rattle.laws.specs.Search.{Found, clear, hit, test, first, every}
use Rattle.laws.specs.Lists.{put}
use Rattle.model.specs.Tree.{Array, out, inp, resource, Node, stop, new, par, choice, agent, node_at, is_agent, is_new, is_free, proc_at, Agent, agent_at}
use Rattle.model.specs.Formed.{Refusal, refuse}
use Rattle.model.specs.Calculus.{Notation, Marker, Cell, unheld, holds, calculus, Choices, Thread, Config, Attempt, Answer, refused, next}
use Rattle.model.specs.Calculus.{no_thread, marker_of, attempt, start}
use Rattle.model.specs.Numbers.{Entry, no_entry, same_entry, position, decode, map_thread, nobody, markers_after}
use Rattle.model.specs.declared.Ending.{Ending}
use Rattle.model.specs.declared.Ending.TheVariants.{Quiet, Spent, Full}

-- ---- words

-- "per name 0 if not free, else 1 + 65,536 × new + marker number"
abbrev pub opening : ℕ → ℕ → ℕ
opening o m = 1 + 65536 * o + m

-- the new and the marker number of such a word
abbrev pub new_in : ℕ → ℕ
new_in x = (x - 1) / 65536

abbrev pub marker_in : ℕ → ℕ
marker_in x = (x - 1) % 65536

-- markers by number and cells by word, as the lists hold them
unfoldable pub words : List Entry → Notation ℕ ℕ
words es = record {
  empty = 0;
  node = λ r o m n. suc (position record { resource = r; out = o; left = m; right = n } es);
  unheld = 0;
  holds = opening;
  same = λ x y. not (eqb x 0) && eqb x y;
}

-- "a thread takes 2 + N words of 32 bits: node, marker number, then per name"
unfoldable pub thread_in : ℕ → List ℕ → Thread ℕ ℕ
thread_in n l = record { agent = get_or l 0 0; marker = get_or l 1 0; env = take n (drop 2 l) }

-- the first k threads of a list
unfoldable pub threads_in : ℕ → ℕ → List ℕ → Config ℕ ℕ
threads_in n zero l = []
threads_in n (suc k) l = thread_in n l ∷ threads_in n k (drop (2 + n) l)

abbrev pub thread_words : Thread ℕ ℕ → List ℕ
thread_words t = t.agent ∷ t.marker ∷ t.env

unfoldable pub words_of : Config ℕ ℕ → List ℕ
words_of [] = []
words_of (t ∷ c) = thread_words t ++ words_of c

-- "marker i takes four 16-bit numbers at entry i - 1"
unfoldable pub entry_in : List ℕ → Entry
entry_in l = record { resource = get_or l 0 0; out = get_or l 1 0; left = get_or l 2 0; right = get_or l 3 0 }

-- the first k entries of a list
unfoldable pub entries_in : ℕ → List ℕ → List Entry
entries_in zero l = []
entries_in (suc k) l = entry_in l ∷ entries_in k (drop 4 l)

abbrev pub entry_numbers : Entry → List ℕ
entry_numbers e = e.resource ∷ e.out ∷ e.left ∷ e.right ∷ []

unfoldable pub numbers_of : List Entry → List ℕ
numbers_of [] = []
numbers_of (e ∷ es) = entry_numbers e ++ numbers_of es

-- ---- lent memory: the two lists, with how many threads and markers are in use

pub record Memory : Type 0 where
  pub threads : List ℕ
  pub thread_count : ℕ
  pub markers : List ℕ
  pub marker_count : ℕ

abbrev pub memory : List ℕ → ℕ → List ℕ → ℕ → Memory
memory l k ml j = record { threads = l; thread_count = k; markers = ml; marker_count = j }

abbrev pub config_of : Array → Memory → Config ℕ ℕ
config_of a m = threads_in a.names m.thread_count m.threads

abbrev pub entries_of : Memory → List Entry
entries_of m = entries_in m.marker_count m.markers

-- "At most 256 threads and 4,096 markers fit, fewer if the lists are shorter."
abbrev pub thread_room : ℕ → List ℕ → ℕ
thread_room n l = min 256 (length l / (2 + n))

abbrev pub marker_room : List ℕ → ℕ
marker_room l = min 4096 (length l / 4)

-- ---- refusal 22: "The choice bytes aren't 128 in number."

abbrev pub refusal22 : List ℕ → Found Refusal
refusal22 choices = refuse 22 0 (eqb (length choices) 128)

-- ---- refusal 23: "The lent configuration isn't well formed"

unfoldable pub is_resource : Node → Bool
is_resource stop = false
is_resource (new n l) = false
is_resource (par l r) = false
is_resource (choice l r) = false
is_resource (agent out x ys l) = false
is_resource (agent inp x ys l) = false
is_resource (agent resource x ys l) = true

unfoldable pub is_out : Node → Bool
is_out stop = false
is_out (new n l) = false
is_out (par l r) = false
is_out (choice l r) = false
is_out (agent out x ys l) = true
is_out (agent inp x ys l) = false
is_out (agent resource x ys l) = false

-- "a name's word is 0 exactly where the name isn't free in that agent, and otherwise its new is bound by kind 1"; "marker numbers
-- are at most the marker count", k
unfoldable pub word_formed : Array → ℕ → Bool → ℕ → Bool
word_formed a k true x = not (eqb x 0) && (is_new a (new_in x) && leb (marker_in x) k)
word_formed a k false x = eqb x 0

-- "threads have agent nodes; marker numbers are at most the marker count", k
unfoldable pub thread_formed : Array → ℕ → Thread ℕ ℕ → Bool
thread_formed a k t =
    is_agent (node_at a t.agent)
    && (leb t.marker k && every a.names (λ v. word_formed a k (is_free (proc_at a t.agent) v) (get_or t.env v 0)))

-- "a marker entry has a resource, an out and two numbers below its own": entry i is marker i + 1
unfoldable pub entry_formed : Array → ℕ → Entry → Bool
entry_formed a i e = is_resource (node_at a e.resource) && (is_out (node_at a e.out) && (leb e.left i && leb e.right i))

-- "no two entries are equal": none equals an earlier one
unfoldable pub unlike : List Entry → ℕ → Bool
unlike es i = every i λ j. not (same_entry (get_or es j no_entry) (get_or es i no_entry))

unfoldable pub formed : Array → Memory → Bool
formed a m =
    -- "both counts fit the lists"
    leb m.thread_count (thread_room a.names m.threads)
    && (leb m.marker_count (marker_room m.markers)
    && (every m.thread_count (λ i. thread_formed a m.marker_count (get_or (config_of a m) i nobody))
    && (every m.marker_count (λ i. entry_formed a i (get_or (entries_of m) i no_entry)) && every m.marker_count (unlike (entries_of m)))))

abbrev pub refusal23 : Array → Memory → Found Refusal
refusal23 a m = refuse 23 0 (formed a m)

-- ---- start and step

-- a refusal by its number, or the lists as a start or a step leaves them
pub data Result : Type 0 where
  stops : ℕ → Result
  leaves : Memory → Result

-- the lists with a configuration and its entries: "words past the used ones keep their content"
unfoldable pub store : Memory → Config ℕ ℕ → List Entry → Memory
store m c es = record {
  threads = put 0 (words_of c) m.threads;
  thread_count = length c;
  markers = put 0 (numbers_of es) m.markers;
  marker_count = length es;
}

-- "28. The next configuration has more threads than fit."; 29: a new marker "isn't listed yet, and the markers are full"
unfoldable pub fitted : Array → Memory → Config ℕ ℕ → List Entry → Result
fitted a m c es =
    cond (leb (length c) (thread_room a.names m.threads))
    (cond (leb (length es) (marker_room m.markers)) (leaves (store m c es)) (stops 29)) (stops 28)

-- the start uses no marker
unfoldable pub start_in : Array → Choices → Memory → Result
start_in a ch m = fitted a m (start (words []) a ch) []

unfoldable pub on_answer : Array → Memory → List Entry → Answer ℕ ℕ → Result
on_answer a m es (refused n) = stops n
on_answer a m es (next c) = fitted a m c es

-- 24 to 29, or the step
unfoldable pub step_in : Array → Memory → Attempt → Result
step_in a m u = on_answer a m (markers_after a (entries_of m) (config_of a m) u) (attempt (words (entries_of m)) a (config_of a m) u)

-- ---- the walk

unfoldable pub is_next : {X C : Type 0} → Answer X C → Bool
is_next (refused n) = false
is_next (next c) = true

abbrev pub try : Choices → ℕ → ℕ → Attempt
try ch r s = record { receiver = r; sender = s; choices = ch }

-- "the first ready pair (not refused by 25 to 27), lowest receiver position first, then lowest sender"
unfoldable pub first_ready : {X C : Type 0} → Notation X C → Array → Choices → Config X C → Found Attempt
first_ready N a ch c = first (length c) λ r. first (length c) λ s. test (not (is_next (attempt N a c (try ch r s)))) (try ch r s)

-- how a walk ended, how many steps it made, and the lists as those steps left them
pub record Walked : Type 0 where
  pub ending : Ending
  pub steps : ℕ
  pub left : Memory

abbrev pub ends : Ending → Memory → Walked
ends x m = record { ending = x; steps = 0; left = m }

-- the same with one step more, made first
abbrev pub more : Walked → Walked
more w = record { ending = w.ending; steps = suc w.steps; left = w.left }

unfoldable pub on_pair : Found Attempt → Walked → (Attempt → Walked) → Walked
on_pair clear w f = w
on_pair (hit u) w f = f u

unfoldable pub on_step : Result → Walked → (Memory → Walked) → Walked
on_step (stops n) w f = w
on_step (leaves m) w f = f m

-- "Before each step: no ready pair, quiet; else the steps made equal the allowed number, spent; else a step refused by 28 or 29,
-- full." The number is that of the steps still allowed.
unfoldable pub walk_in : Array → Choices → ℕ → Memory → Walked
walk_in a ch zero m = on_pair (first_ready (words (entries_of m)) a ch (config_of a m)) (ends Quiet m) λ u. ends Spent m
walk_in a ch (suc k) m =
    on_pair (first_ready (words (entries_of m)) a ch (config_of a m)) (ends Quiet m) λ u.
    on_step (step_in a m u) (ends Full m) λ n. more (walk_in a ch k n)

-- ---- the walk, told step by step

-- "the marker number of the receiver's continuation"
unfoldable pub marker_made : Array → Memory → Attempt → ℕ
marker_made a m u =
    let r = get_or (config_of a m) u.receiver nobody in
    let s = get_or (config_of a m) u.sender nobody in
    elim (agent_at a r.agent) [ none ↦ 0 | some p ↦ marker_of (words (entries_of m)) p.sort r s ]

-- why a walk makes no further step, or its next step: the attempt and the lists after it
pub data Next : Type 0 where
  ended : Ending → Next
  moved : Attempt → Memory → Next

unfoldable pub on_result : Attempt → Result → Next
on_result u (stops n) = ended Full
on_result u (leaves n) = moved u n

-- the step of a ready pair
unfoldable pub turn_in : Array → Memory → Attempt → Next
turn_in a m u = on_result u (step_in a m u)

unfoldable pub on_found : Array → ℕ → Memory → Found Attempt → Next
on_found a k m clear = ended Quiet
on_found a k m (hit u) = cond (eqb k 0) (ended Spent) (turn_in a m u)

-- what a walk does next where k more steps are allowed
unfoldable pub next_in : Array → Choices → ℕ → Memory → Next
next_in a ch k m = on_found a k m (first_ready (words (entries_of m)) a ch (config_of a m))

-- a walk by its next step: its ending; or that step, and the walk from the lists after it with one step less allowed
unfoldable pub resumed : Array → Choices → ℕ → Memory → Next → Walked
resumed a ch k m (ended x) = ends x m
resumed a ch k m (moved u n) = more (walk_in a ch (k - 1) n)

-- ---- what the lists stand for: threads with marker trees, as the calculus has them

unfoldable pub decode_word : List Entry → ℕ → Cell
decode_word es x = cond (eqb x 0) unheld (holds (new_in x) (decode es (marker_in x)))

unfoldable pub stands_for : Array → Memory → Config Marker Cell
stands_for a m = map (map_thread (decode (entries_of m)) (decode_word (entries_of m))) (config_of a m)

-- ---- start, step and walk in the terms of the calculus

-- the lists after a start hold the calculus' start, unless it has more threads than fit
abbrev pub Starts : Array → Choices → Memory → Result → Type 0
Starts a ch m r =
    ((r ≡ stops 28) × (thread_room a.names m.threads < length (start calculus a ch)))
    ⊎ ((n : Memory) × (r ≡ leaves n) × (stands_for a n ≡ start calculus a ch))

-- a refusal of the calculus is the refusal of the step; a step of the calculus is stopped by 28, where it leaves more threads than
-- fit, by 29, where it lists more markers than fit, or made
abbrev pub Follows : Array → Memory → Attempt → Answer Marker Cell → Result → Type 0
Follows a m u (refused n) r = r ≡ stops n
Follows a m u (next d) r =
    ((r ≡ stops 28) × (thread_room a.names m.threads < length d))
    ⊎ (((r ≡ stops 29) × (marker_room m.markers < length (markers_after a (entries_of m) (config_of a m) u)))
    ⊎ ((n : Memory) × (r ≡ leaves n) × (stands_for a n ≡ d)))

-- n steps of the calculus, each of the first ready pair, lead from configuration c to e
abbrev pub Walks : Array → Choices → ℕ → Config Marker Cell → Config Marker Cell → Type 0
Walks a ch zero c e = c ≡ e
Walks a ch (suc n) c e =
    (u : Attempt) × (d : Config Marker Cell) × (first_ready calculus a ch c ≡ hit u) × (attempt calculus a c u ≡ next d) × Walks a ch n d e

-- why a walk of at most `allowed` steps ended where it did
abbrev pub Ends : Array → Choices → ℕ → Walked → Ending → Type 0
Ends a ch allowed w Quiet = first_ready calculus a ch (stands_for a w.left) ≡ clear
Ends a ch allowed w Spent = (w.steps ≡ allowed) × ((u : Attempt) × (first_ready calculus a ch (stands_for a w.left) ≡ hit u))
Ends a ch allowed w Full =
    (w.steps < allowed)
    × ((u : Attempt) × (first_ready calculus a ch (stands_for a w.left) ≡ hit u)
    × ((step_in a w.left u ≡ stops 28) ⊎ (step_in a w.left u ≡ stops 29)))

-- a step of a walk: of the calculus' first ready pair; the lists after it stand for the calculus' next configuration, and the marker
-- told for the marker that the receiver's continuation runs under
pub record Turned (a : Array) (ch : Choices) (m : Memory) (u : Attempt) (n : Memory) : Type 0 where
  pub first : first_ready calculus a ch (stands_for a m) ≡ hit u
  pub steps : attempt calculus a (stands_for a m) u ≡ next (stands_for a n)
  pub receiver : Agent
  pub acts : agent_at a (get_or (stands_for a m) u.receiver (no_thread calculus)).agent ≡ some receiver
  pub marker : decode (entries_of n) (marker_made a m u)
      ≡ marker_of calculus receiver.sort (get_or (stands_for a m) u.receiver (no_thread calculus)) (get_or (stands_for a m) u.sender (no_thread calculus))

-- what a walk does next, where k more steps are allowed
abbrev pub Tells : Array → Choices → ℕ → Memory → Next → Type 0
Tells a ch k m (ended x) = Ends a ch k (ends x m) x
Tells a ch k m (moved u n) = (0 < k) × Turned a ch m u n
