-- Arrays A, B and C of 01 with their tables, and the marked cases as rows of one table (01, "Arrays A, B and C").
use Rattle.std.specs.Prelude.{ℕ, ◌≡◌, Bool, true, false, List, [], ◌∷◌, length, get_or}
use Rattle.laws.specs.Search.{hit}
use Rattle.laws.specs.Lists.{has}
use Rattle.model.specs.Tree.{Array, Node, out, inp, resource}
use Rattle.model.specs.Calculus.{Marker, Cell, Thread, Config, Attempt, Answer, refused, calculus, attempt, run}
use Rattle.model.specs.declared.Ending.{Ending}
use Rattle.model.specs.declared.Ending.TheVariants.{Quiet, Spent, Full}
use Rattle.model.specs.Memory.{Memory, Result, stops, leaves, start_in, step_in, formed, Walked, walk_in}
use Rattle.model.specs.Memory.{stands_for, Starts, Follows, Walks, Ends, Next, moved, Tells}
use Rattle.model.specs.Memory as M
use Rattle.model.specs.declared.Claim.{Claim}
use Rattle.model.specs.Rules.{Table, Broken, Verdict, held, at, verdict, check5, FirstBroken}
use Rattle.model.specs.Mend.{Rows, Smallest, bits_set}
use Rattle.model.specs.Same.{SameClaims}
use Rattle.model.specs.Safe.{set_sum, Safe}

-- an array of listed nodes
abbrev pub array_from : ℕ → List Node → Array
array_from n nodes = record { size = length nodes; names = n; node = λ i. get_or nodes i Node.stop }

-- "A: 0 new 0 to 1; 1 new 1 to 2; 2 par 3, 5; 3 out 0 [1] to 4; 4 stop; 5 in 0 [2] to 6; 6 out 2 [] to 7; 7 stop."
abbrev pub A : Array
A =
    array_from 3
    (Node.new 0 1
    ∷ Node.new 1 2
    ∷ Node.par 3 5
    ∷ Node.agent out 0 (1 ∷ []) 4
    ∷ Node.stop
    ∷ Node.agent inp 0 (2 ∷ []) 6
    ∷ Node.agent out 2 [] 7
    ∷ Node.stop
    ∷ [])

-- "B: 0 new 0 to 1; 1 par 2, 4; 2 out 0 [] to 3; 3 stop; 4 resource 0 [] to 5; 5 out 0 [] to 6; 6 stop."
abbrev pub B : Array
B =
    array_from 1
    (Node.new 0 1
    ∷ Node.par 2 4
    ∷ Node.agent out 0 [] 3
    ∷ Node.stop
    ∷ Node.agent resource 0 [] 5
    ∷ Node.agent out 0 [] 6
    ∷ Node.stop
    ∷ [])

-- "C: 0 new 0 to 1; 1 choice 2, 4; 2 out 0 [] to 3; 3 stop; 4 in 0 [] to 5; 5 stop."
abbrev pub C : Array
C =
    array_from 1
    (Node.new 0 1
    ∷ Node.choice 2 4
    ∷ Node.agent out 0 [] 3
    ∷ Node.stop
    ∷ Node.agent inp 0 [] 5
    ∷ Node.stop
    ∷ [])

-- A resource that receives twice and opens name 1 each time, for a sender (10) and a receiver (11) of each instance.
abbrev pub D : Array
D =
    array_from 2
    (Node.new 0 1
    ∷ Node.par 2 3
    ∷ Node.agent resource 0 [] 4
    ∷ Node.par 5 6
    ∷ Node.new 1 7
    ∷ Node.agent out 0 [] 8
    ∷ Node.agent out 0 [] 9
    ∷ Node.par 10 11
    ∷ Node.stop
    ∷ Node.stop
    ∷ Node.agent out 1 [] 12
    ∷ Node.agent inp 1 [] 13
    ∷ Node.stop
    ∷ Node.stop
    ∷ [])

-- A sender and a resource that leave nothing.
abbrev pub G : Array
G = array_from 1 (Node.new 0 1 ∷ Node.par 2 3 ∷ Node.agent out 0 [] 4 ∷ Node.agent resource 0 [] 5 ∷ Node.stop ∷ Node.stop ∷ [])

-- Two resources that each leave a sender, for one sender.
abbrev pub H : Array
H =
    array_from 1
    (Node.new 0 1
    ∷ Node.par 2 3
    ∷ Node.par 4 5
    ∷ Node.agent out 0 [] 6
    ∷ Node.agent resource 0 [] 7
    ∷ Node.agent resource 0 [] 8
    ∷ Node.stop
    ∷ Node.agent out 0 [] 9
    ∷ Node.agent out 0 [] 10
    ∷ Node.stop
    ∷ Node.stop
    ∷ [])

-- A's sender and receiver as a choice: 0 new 0 to 1; 1 new 1 to 2; 2 choice 3, 4; 3 out 0 [1] to 5; 4 in 0 [2] to 6; 5 and 6 stop.
abbrev pub E : Array
E =
    array_from 3
    (Node.new 0 1
    ∷ Node.new 1 2
    ∷ Node.choice 3 4
    ∷ Node.agent out 0 (1 ∷ []) 5
    ∷ Node.agent inp 0 (2 ∷ []) 6
    ∷ Node.stop
    ∷ Node.stop
    ∷ [])

-- a claim on balance 0 that stands alone, and one of a set
abbrev pub claim : ℕ → ℕ → Claim
claim i m = record { agent = i; most = m; balance = 0; set = 0 }

abbrev pub claim_in : ℕ → ℕ → ℕ → Claim
claim_in n i m = record { agent = i; most = m; balance = 0; set = n }

-- a table of its rows, one balance (bound, weights by node) and claims on it (agent, most)
unfoldable pub table : List (List ℕ) → ℕ → List ℕ → List Claim → Table
table rows b ws cs = record {
  row = λ v o. has (get_or rows v []) o;
  balances = 1;
  balance = λ k. record { bound = b; weight = λ i. get_or ws i 0 };
  claims = length cs;
  claim = λ q. get_or cs q (claim 0 0);
}

-- "Rows {0}, {1}, {1}; balance w5 = w6 = 1, bound 1; claim 6, most 1."
abbrev pub rows_a : List (List ℕ)
rows_a = (0 ∷ []) ∷ (1 ∷ []) ∷ (1 ∷ []) ∷ []

abbrev pub weights_a : List ℕ
weights_a = 0 ∷ 0 ∷ 0 ∷ 0 ∷ 0 ∷ 1 ∷ 1 ∷ 0 ∷ []

abbrev pub table_a : Table
table_a = table rows_a 1 weights_a (claim 6 1 ∷ [])

-- B's and C's: "Row {0}", no claims
abbrev pub row0 : ℕ → List ℕ → Table
row0 b ws = table ((0 ∷ []) ∷ []) b ws []

-- a step of two positions, every choice to the left
abbrev pub pair : ℕ → ℕ → Attempt
pair r s = record { receiver = r; sender = s; choices = λ i. false }

-- lent lists for B, of three words a thread and four numbers a marker, with 7 and 9 where nothing was written
abbrev pub lists : List ℕ → ℕ → List ℕ → ℕ → Memory
lists ws k ns j = record { threads = ws; thread_count = k; markers = ns; marker_count = j }

-- before the start, after it, and after two steps
abbrev pub B₀ : Memory
B₀ = lists (7 ∷ 7 ∷ 7 ∷ 7 ∷ 7 ∷ 7 ∷ 7 ∷ 7 ∷ 7 ∷ []) 0 (9 ∷ 9 ∷ 9 ∷ 9 ∷ 9 ∷ 9 ∷ 9 ∷ 9 ∷ 9 ∷ []) 0

abbrev pub B₁ : Memory
B₁ = lists (2 ∷ 0 ∷ 1 ∷ 4 ∷ 0 ∷ 1 ∷ 7 ∷ 7 ∷ 7 ∷ []) 2 (9 ∷ 9 ∷ 9 ∷ 9 ∷ 9 ∷ 9 ∷ 9 ∷ 9 ∷ 9 ∷ []) 0

abbrev pub B₂ : Memory
B₂ = lists (4 ∷ 0 ∷ 1 ∷ 5 ∷ 2 ∷ 1 ∷ 7 ∷ 7 ∷ 7 ∷ []) 2 (4 ∷ 2 ∷ 0 ∷ 0 ∷ 4 ∷ 5 ∷ 0 ∷ 1 ∷ 9 ∷ []) 2

-- B after one step
abbrev pub B₁₂ : Memory
B₁₂ = lists (4 ∷ 0 ∷ 1 ∷ 5 ∷ 1 ∷ 1 ∷ 7 ∷ 7 ∷ 7 ∷ []) 2 (4 ∷ 2 ∷ 0 ∷ 0 ∷ 9 ∷ 9 ∷ 9 ∷ 9 ∷ 9 ∷ []) 1

-- two senders of B, then its resource; and what the second sender's step leaves, which is not the first ready pair's
abbrev pub B₃ : Memory
B₃ = lists (2 ∷ 0 ∷ 1 ∷ 5 ∷ 0 ∷ 1 ∷ 4 ∷ 0 ∷ 1 ∷ []) 3 (9 ∷ 9 ∷ 9 ∷ 9 ∷ []) 0

abbrev pub B₄ : Memory
B₄ = lists (2 ∷ 0 ∷ 1 ∷ 4 ∷ 0 ∷ 1 ∷ 5 ∷ 1 ∷ 1 ∷ []) 3 (4 ∷ 5 ∷ 0 ∷ 0 ∷ []) 1

-- A after its step
abbrev pub A₁ : Memory
A₁ = lists (6 ∷ 0 ∷ 0 ∷ 0 ∷ 65537 ∷ []) 1 [] 0

-- G after its start; and its resource alone, with a marker that names itself as the sender
abbrev pub G₁ : Memory
G₁ = lists (2 ∷ 0 ∷ 1 ∷ 3 ∷ 0 ∷ 1 ∷ []) 2 (9 ∷ 9 ∷ 9 ∷ 9 ∷ []) 0

abbrev pub G₂ : Memory
G₂ = lists (3 ∷ 0 ∷ 1 ∷ 3 ∷ 0 ∷ 1 ∷ []) 1 (3 ∷ 3 ∷ 0 ∷ 0 ∷ []) 1

-- the ending and the steps of a walk that left these lists
abbrev pub walk_ended : Ending → ℕ → Memory → Walked
walk_ended x n m = record { ending = x; steps = n; left = m }

-- threads of A: its sender, and two of agent 6, the last with a given cell of its free name 2
abbrev pub thread : ℕ → List Cell → Thread Marker Cell
thread i cells = record { agent = i; marker = Marker.empty; env = cells }

abbrev pub opened : ℕ → Cell
opened o = Cell.holds o Marker.empty

abbrev pub three_of_a : Cell → Config Marker Cell
three_of_a last =
    thread 3 (opened 0 ∷ opened 1 ∷ Cell.unheld ∷ [])
    ∷ thread 6 (Cell.unheld ∷ Cell.unheld ∷ opened 1 ∷ [])
    ∷ thread 6 (Cell.unheld ∷ Cell.unheld ∷ last ∷ [])
    ∷ []

-- a table that these threads fill: row 2, a bound for w3 = 3 and w6 = 65,535, and the most of 6
abbrev pub limits : List ℕ → ℕ → ℕ → Table
limits row2 bound most =
    table ((0 ∷ []) ∷ (1 ∷ []) ∷ row2 ∷ []) bound (0 ∷ 0 ∷ 0 ∷ 3 ∷ 0 ∷ 0 ∷ 65535 ∷ 0 ∷ []) (claim 3 1 ∷ claim 6 most ∷ [])

-- the same rows and weights, filled to the brim, with other claims; one set of agents 3 and 6, where 6 is named twice
abbrev pub brimful : List Claim → Table
brimful = table ((0 ∷ []) ∷ (1 ∷ []) ∷ (1 ∷ []) ∷ []) 131073 (0 ∷ 0 ∷ 0 ∷ 3 ∷ 0 ∷ 0 ∷ 65535 ∷ 0 ∷ [])

abbrev pub joint : ℕ → Table
joint most = brimful (claim_in 7 3 most ∷ claim_in 7 6 most ∷ claim_in 7 6 most ∷ [])

-- D with weights of its resource's senders 5 and 6, and of 10, which it leaves
abbrev pub table_d : ℕ → ℕ → ℕ → Table
table_d bound w5 w10 = table ((0 ∷ []) ∷ (1 ∷ []) ∷ []) bound (0 ∷ 0 ∷ 0 ∷ 0 ∷ 0 ∷ w5 ∷ w5 ∷ 0 ∷ 0 ∷ 0 ∷ w10 ∷ []) []

-- H with weights of the senders that its resources leave
abbrev pub table_h : Table
table_h = row0 9 (0 ∷ 0 ∷ 0 ∷ 0 ∷ 0 ∷ 0 ∷ 0 ∷ 1 ∷ 1 ∷ [])

-- A's table with other rows, and one for E, whose agents weigh 1 each
abbrev pub rows_of : List (List ℕ) → Rows
rows_of l v o = has (get_or l v []) o

abbrev pub flow_a : List (List ℕ) → Table
flow_a l = table l 1 weights_a (claim 6 1 ∷ [])

abbrev pub flow_e : ℕ → List (List ℕ) → Table
flow_e bound l = table l bound (0 ∷ 0 ∷ 0 ∷ 1 ∷ 1 ∷ 0 ∷ 0 ∷ []) []

-- A with row 2 empty and w6 = 2
abbrev pub twice_broken : Table
twice_broken = table ((0 ∷ []) ∷ (1 ∷ []) ∷ [] ∷ []) 1 (0 ∷ 0 ∷ 0 ∷ 0 ∷ 0 ∷ 1 ∷ 2 ∷ 0 ∷ []) []

-- ---- the rows

pub data Row : Type 0 where
  judged : Array → Table → Verdict → Row
  claimed : Table → Verdict → Row
  starts : Array → Memory → Result → Row
  steps : Array → Memory → Attempt → Result → Row
  well_formed : Array → Memory → Bool → Row
  walks : Array → ℕ → Memory → Walked → Row
  tried : Array → List Attempt → Attempt → Answer Marker Cell → Row
  safe : Array → Table → Config Marker Cell → Row
  unsafe : Array → Table → Config Marker Cell → Row
  sums : Array → Table → ℕ → Config Marker Cell → ℕ → Row
  no_start : Array → Memory → Result → Row
  no_step : Array → Memory → Attempt → Result → Row
  no_walk : Array → ℕ → Memory → Memory → Row
  no_end : Array → ℕ → Walked → Row
  not_told : Array → ℕ → Memory → Next → Row
  not_first : Array → Table → Broken → Row
  same : Table → Table → Row
  other : Table → Table → Row
  smallest : Array → Table → List (List ℕ) → ℕ → Row
  not_smallest : Array → Table → List (List ℕ) → Row

-- what a row says
abbrev pub Says : Row → Type 0
Says (judged a t v) = verdict a t ≡ v
Says (claimed t v) = check5 A t ≡ v
Says (starts a m r) = start_in a (λ i. false) m ≡ r
Says (steps a m u r) = step_in a m u ≡ r
Says (well_formed a m b) = formed a m ≡ b
Says (walks a k m w) = walk_in a (λ i. false) k m ≡ w
Says (tried a us u x) = attempt calculus a (run calculus a (λ i. false) us) u ≡ x
Says (safe a t c) = Safe a t c
Says (unsafe a t c) = Safe a t c → ⊥
Says (sums a t q c n) = set_sum a.size t q c ≡ n
Says (no_start a m r) = Starts a (λ i. false) m r → ⊥
Says (no_step a m u r) = Follows a m u (attempt calculus a (stands_for a m) u) r → ⊥
Says (no_walk a n m e) = Walks a (λ i. false) n (stands_for a m) (stands_for a e) → ⊥
Says (no_end a k w) = Ends a (λ i. false) k w w.ending → ⊥
Says (not_told a k m x) = Tells a (λ i. false) k m x → ⊥
Says (not_first a t b) = FirstBroken a t b → ⊥
Says (same t u) = SameClaims t u
Says (other t u) = SameClaims t u → ⊥
Says (smallest a t l n) = Smallest a t (rows_of l) × (bits_set a t.row (rows_of l) ≡ n)
Says (not_smallest a t l) = Smallest a t (rows_of l) → ⊥

abbrev pub rows : List Row
rows =
    -- *A is accepted.
    judged A table_a held
    -- *A with most 0: rule 5, claim 0.
    ∷ judged A (table rows_a 1 weights_a (claim 6 0 ∷ [])) (hit (at 5 (0 ∷ [])))
    -- *A, bound 0: rule 2, balance 0.
    ∷ judged A (table rows_a 0 weights_a (claim 6 1 ∷ [])) (hit (at 2 (0 ∷ [])))
    -- *A, row 2 empty: rule 3 at 5, 3, 1.
    ∷ judged A (table ((0 ∷ []) ∷ (1 ∷ []) ∷ [] ∷ []) 1 weights_a (claim 6 1 ∷ [])) (hit (at 3 (5 ∷ 3 ∷ 1 ∷ [])))
    -- *A, row 1 empty: rule 1 at 1.
    ∷ judged A (table ((0 ∷ []) ∷ [] ∷ (1 ∷ []) ∷ []) 1 weights_a (claim 6 1 ∷ [])) (hit (at 1 (1 ∷ [])))
    -- *A, w6 = 2: rule 4 at 5, 3, 0.
    ∷ judged A (table rows_a 1 (0 ∷ 0 ∷ 0 ∷ 0 ∷ 0 ∷ 1 ∷ 2 ∷ 0 ∷ []) (claim 6 1 ∷ [])) (hit (at 4 (5 ∷ 3 ∷ 0 ∷ [])))
    -- *B, w2 = w5 = 1, bound 1: accepted.
    ∷ judged B (row0 1 (0 ∷ 0 ∷ 1 ∷ 0 ∷ 0 ∷ 1 ∷ 0 ∷ [])) held
    -- *B, only w5 = 1, bound 1: rule 4 at 4, 2, 0.
    ∷ judged B (row0 1 (0 ∷ 0 ∷ 0 ∷ 0 ∷ 0 ∷ 1 ∷ 0 ∷ [])) (hit (at 4 (4 ∷ 2 ∷ 0 ∷ [])))
    -- *C, w2 = w4 = 1, bound 1: accepted, pair not live.
    ∷ judged C (row0 1 (0 ∷ 0 ∷ 1 ∷ 0 ∷ 1 ∷ 0 ∷ [])) held
    -- *Weight 3, bound 2, most 0 meets rule 5.
    ∷ claimed (table [] 2 (3 ∷ []) (claim 0 0 ∷ [])) held
    -- *B after two steps: threads 4 and 5, markers (4, 2, 0, 0), (4, 5, 0, 1). Its start, and each of the two steps.
    ∷ starts B B₀ (leaves B₁)
    ∷ steps B B₁ (pair 1 0) (leaves B₁₂)
    ∷ steps B B₁₂ (pair 0 1) (leaves B₂)
    -- The same by the walk. "B with 2 steps allowed: spent; with 0: spent after none."
    ∷ well_formed B B₁ true
    ∷ walks B 2 B₁ record { ending = Spent; steps = 2; left = B₂ }
    ∷ well_formed B B₂ true
    ∷ walks B 0 B₁ record { ending = Spent; steps = 0; left = B₁ }
    -- Channels are not compared by name alone: a receiver and a sender on name 1 of two instances do not meet (27).
    ∷ tried D (pair 0 1 ∷ pair 0 1 ∷ []) (pair 2 3) (refused 27)
    ∷ []

-- sets of claims
abbrev pub set_rows : List Row
set_rows =
    -- A with agents 5 and 6 in one set: at most one of the two. Most 0 is not met, nor is a set with 3, which weighs nothing.
    judged A (table rows_a 1 weights_a (claim_in 1 5 1 ∷ claim_in 1 6 1 ∷ [])) held
    ∷ judged A (table rows_a 1 weights_a (claim_in 1 5 0 ∷ claim_in 1 6 0 ∷ [])) (hit (at 5 (0 ∷ [])))
    ∷ judged A (table rows_a 1 weights_a (claim 6 1 ∷ claim_in 2 6 1 ∷ claim_in 2 3 1 ∷ [])) (hit (at 5 (1 ∷ [])))
    -- A set's threads are counted together, an agent that is named twice once: one thread of 3 and two of 6 are three.
    ∷ safe A (joint 3) (three_of_a (opened 1))
    ∷ unsafe A (joint 2) (three_of_a (opened 1))
    -- So are those of a set of one claim, also the first of the table.
    ∷ unsafe A (brimful (claim_in 7 6 1 ∷ [])) (three_of_a (opened 1))
    ∷ sums A (joint 2) 1 (three_of_a (opened 1)) 3
    ∷ []

-- claims as a set
abbrev pub same_rows : List Row
same_rows =
    -- In any order and with any repeats.
    same (brimful (claim 6 2 ∷ claim_in 7 3 1 ∷ claim 6 2 ∷ [])) (brimful (claim_in 7 3 1 ∷ claim 6 2 ∷ []))
    -- Not where one is lacking on either side, or has another set.
    ∷ other (brimful (claim 6 2 ∷ claim_in 7 3 1 ∷ [])) (brimful (claim 6 2 ∷ []))
    ∷ other (brimful (claim 6 2 ∷ [])) (brimful (claim 6 2 ∷ claim_in 7 3 1 ∷ []))
    ∷ other (brimful (claim 6 2 ∷ [])) (brimful (claim_in 7 6 2 ∷ []))
    ∷ []

-- safe, and its neighbours that are not
abbrev pub safe_rows : List Row
safe_rows =
    -- Safe to the brim: the weights add up to the bound, 3 + 65,535 + 65,535, and as many threads are of agent 6 as its claim allows.
    safe A (limits (1 ∷ []) 131073 2) (three_of_a (opened 1))
    -- Not safe where one thing is less: the most of the second claim, the bound, the bit in row 2, or the opening of a free name.
    ∷ unsafe A (limits (1 ∷ []) 131073 1) (three_of_a (opened 1))
    ∷ unsafe A (limits (1 ∷ []) 131072 2) (three_of_a (opened 1))
    ∷ unsafe A (limits [] 131073 2) (three_of_a (opened 1))
    ∷ unsafe A (limits (1 ∷ []) 131073 2) (three_of_a Cell.unheld)
    ∷ []

-- what a start and a step are not
abbrev pub step_rows : List Row
step_rows =
    -- A start that fits just so is not stopped by 28, nor does it leave another configuration.
    no_start B (lists (7 ∷ 7 ∷ 7 ∷ 7 ∷ 7 ∷ 7 ∷ []) 0 [] 0) (stops 28)
    ∷ no_start B B₀ (leaves B₁₂)
    -- A step that fits just so is not stopped by 28 or 29, is not refused, and does not hand its lists back.
    ∷ no_step B (lists (2 ∷ 0 ∷ 1 ∷ 4 ∷ 0 ∷ 1 ∷ []) 2 (9 ∷ 9 ∷ 9 ∷ 9 ∷ []) 0) (pair 1 0) (stops 28)
    ∷ no_step B (lists (2 ∷ 0 ∷ 1 ∷ 4 ∷ 0 ∷ 1 ∷ []) 2 (9 ∷ 9 ∷ 9 ∷ 9 ∷ []) 0) (pair 1 0) (stops 29)
    ∷ no_step B B₁ (pair 1 0) (stops 27)
    ∷ no_step B B₁ (pair 1 0) (leaves B₁)
    -- A step that the calculus refuses by 25 is not made, nor refused by another number.
    ∷ no_step B B₁ (pair 0 1) (leaves B₁)
    ∷ no_step B B₁ (pair 0 1) (stops 26)
    ∷ []

-- what a walk and its ending are not
abbrev pub walk_rows : List Row
walk_rows =
    -- A walk of one step is not none and not two, and its step is that of the first ready pair.
    no_walk B 1 B₁ B₁
    ∷ no_walk B 1 B₁ B₂
    ∷ no_walk B 0 B₁ B₁₂
    ∷ no_walk B 1 B₃ B₄
    -- Not quiet with a ready pair; not spent without one, or with a step left; not full with a marker's room, or with all steps made.
    ∷ no_end B 2 (walk_ended Quiet 2 B₂)
    ∷ no_end A 1 (walk_ended Spent 1 A₁)
    ∷ no_end B 3 (walk_ended Spent 2 B₂)
    ∷ no_end B 3 (walk_ended Full 1 B₁₂)
    ∷ no_end B 2 (walk_ended Full 2 B₂)
    ∷ []

-- what a walk does not do next
abbrev pub told_rows : List Row
told_rows =
    -- With a ready pair, room and a step left it is not told to be quiet, spent or full; with no step left it is not told a step.
    not_told B 1 B₁ (M.ended Quiet)
    ∷ not_told B 1 B₁ (M.ended Spent)
    ∷ not_told B 1 B₁ (M.ended Full)
    ∷ not_told B 0 B₁ (moved (pair 1 0) B₁₂)
    -- Its step is that of the first ready pair, leaves the calculus' next configuration, and its marker stands for the calculus' marker.
    ∷ not_told B 1 B₃ (moved (pair 2 1) B₄)
    ∷ not_told B 1 B₁ (moved (pair 1 0) B₁)
    ∷ not_told G 1 G₁ (moved (pair 1 0) G₂)
    ∷ []

-- broken rules and places that are not the first
abbrev pub later_rows : List Row
later_rows =
    -- Rule 4 breaks at 4, 3, 0 and at 5, 3, 0: the later receiver is not named; at 2, 5, 0 and at 2, 6, 0: nor is the later sender.
    not_first H table_h (at 4 (5 ∷ 3 ∷ 0 ∷ []))
    ∷ not_first D (table_d 9 0 1) (at 4 (2 ∷ 6 ∷ 0 ∷ []))
    -- Rules 2 and 4 break, and on A rules 3 and 4: the later rule is not named.
    ∷ not_first D (table_d 1 1 2) (at 4 (2 ∷ 5 ∷ 0 ∷ []))
    ∷ not_first A twice_broken (at 4 (5 ∷ 3 ∷ 0 ∷ []))
    -- Two claims break rule 5: the later claim is not named, and no claim that keeps it.
    ∷ not_first A (table rows_a 1 weights_a (claim 6 0 ∷ claim 6 0 ∷ [])) (at 5 (1 ∷ []))
    ∷ not_first A table_a (at 5 (0 ∷ []))
    ∷ []

-- mended rows, with the number of bits set, and rows that are not
abbrev pub mend_rows : List Row
mend_rows =
    -- A with rows 1 and 2 empty: rule 1 asks for bit 1 in row 1, so that rule 3 asks for it in row 2.
    smallest A (flow_a ((0 ∷ []) ∷ [] ∷ [] ∷ [])) rows_a 2
    -- Pairs live by the mended rows: by the given ones none does here.
    ∷ smallest A (flow_a ([] ∷ [] ∷ [] ∷ [])) rows_a 3
    -- Nothing is missing; a bit that no rule asks for stays.
    ∷ smallest A table_a rows_a 0
    ∷ smallest A (flow_a ((0 ∷ 1 ∷ []) ∷ [] ∷ [] ∷ [])) ((0 ∷ 1 ∷ []) ∷ (1 ∷ []) ∷ (1 ∷ []) ∷ []) 2
    -- Bits are counted, not rows: row 2 gets two.
    ∷ smallest A (flow_a ([] ∷ (0 ∷ []) ∷ [] ∷ [])) ((0 ∷ []) ∷ (0 ∷ 1 ∷ []) ∷ (0 ∷ 1 ∷ []) ∷ []) 4
    -- Under the balances: E's pair does not live by bound 1, and does by 2.
    ∷ smallest E (flow_e 1 ((0 ∷ []) ∷ [] ∷ [] ∷ [])) ((0 ∷ []) ∷ (1 ∷ []) ∷ [] ∷ []) 1
    ∷ smallest E (flow_e 2 ((0 ∷ []) ∷ [] ∷ [] ∷ [])) ((0 ∷ []) ∷ (1 ∷ []) ∷ (1 ∷ []) ∷ []) 2
    -- Not where rule 1 or rule 3 is not met, where a given bit is gone, or where a bit is there that nobody asked for.
    ∷ not_smallest A (flow_a ((0 ∷ []) ∷ [] ∷ [] ∷ [])) ((0 ∷ []) ∷ [] ∷ [] ∷ [])
    ∷ not_smallest A (flow_a ((0 ∷ []) ∷ [] ∷ [] ∷ [])) ((0 ∷ []) ∷ (1 ∷ []) ∷ [] ∷ [])
    ∷ not_smallest A (flow_a ((0 ∷ 1 ∷ []) ∷ [] ∷ [] ∷ [])) rows_a
    ∷ not_smallest A (flow_a ((0 ∷ []) ∷ [] ∷ [] ∷ [])) ((0 ∷ 1 ∷ []) ∷ (1 ∷ []) ∷ (1 ∷ []) ∷ [])
    ∷ []
