-- Array and table files, written out byte by byte, and the marked cases of 01 over them as rows of one table (01, "Arrays A, B
-- and C"); what the other entries answer and leave on such files, as rows too.
use Rattle.std.specs.Prelude.{ℕ, ◌+◌, ◌-◌, ◌/◌, ◌≡◌, List, [], ◌∷◌, ◌++◌, length, replicate, Result, Ok, Some}
use Rattle.laws.specs.Search.{hit}
use Rattle.wire.specs.Numbers.{word_sum, le16, le32, sealed}
use Rattle.model.specs.Rules.{Rules}
use Rattle.records.specs.declared.Refusal.{Refusal}
use Rattle.records.specs.declared.Form.TheVariants.{Pis1}
use Rattle.records.specs.declared.Trailer.{Trailer}
use Rattle.records.specs.declared.Form.TheVariants as A
use Rattle.arrays.specs.File.{pis1, refusal2}
use Rattle.layout.specs.declared.Form.TheVariants.{Pic1}
use Rattle.layout.specs.declared.Sizes.{Sizes}
use Rattle.layout.specs.declared.Form.TheVariants as B
use Rattle.layout.specs.Table.{pic1, refusal14}
use Rattle.model.specs.declared.Ending.TheVariants.{Quiet, Spent, Full}
use Rattle.model.specs.Memory.{Memory, memory}
use Rattle.tables.specs.Read.{files_refusal}
use Rattle.engine.specs.declared.Allowance.{Allowance}
use Rattle.lent.specs.declared.Counts.{Counts}
use Rattle.engine.specs.declared.Turn.{Turn}
use Rattle.engine.specs.declared.Walk.{Walk}
use Rattle.handover.specs.Refusals.{done, refused, ArrayNumber, TableNumber, MendNumber, StartNumber, StepNumber, WalkNumber}
use Rattle.handover.specs.Front.{array_in, table_in, Outcome, held, rule, SameBytes, OneOrder, OneFile, Demand3, SetsBounded}
use Rattle.handover.specs.Mending.{mend_reply, mend_output}
use Rattle.handover.specs.Engine.{Left, left, start_of, step_of, stride_of, WalkPromise}
use Rattle.handover.specs.declared.Told.{Told}
use Rattle.handover.specs.declared.Told.TheVariants as T

-- ---- writing files

abbrev pub join : List (List ℕ) → List ℕ
join [] = []
join (x ∷ xs) = x ++ join xs

-- a node's record of up to one argument byte
abbrev pub record16 : ℕ → ℕ → ℕ → ℕ → ℕ → ℕ → List ℕ
record16 kind arity left right name arg = kind ∷ arity ∷ (le16 left ++ (le16 right ++ (name ∷ 0 ∷ arg ∷ replicate 7 0)))

abbrev pub stop : List ℕ
stop = record16 0 0 0 0 0 0

abbrev pub new : ℕ → ℕ → List ℕ
new n l = record16 1 0 l 0 n 0

abbrev pub par : ℕ → ℕ → List ℕ
par l r = record16 2 0 l r 0 0

abbrev pub choice : ℕ → ℕ → List ℕ
choice l r = record16 3 0 l r 0 0

-- an agent of a kind without arguments, and with one
abbrev pub plain : ℕ → ℕ → ℕ → List ℕ
plain kind x l = record16 kind 0 l 0 x 0

abbrev pub passing : ℕ → ℕ → ℕ → ℕ → List ℕ
passing kind x y l = record16 kind 1 l 0 x y

-- an agent of a kind with its arguments
abbrev pub agent : ℕ → ℕ → List ℕ → ℕ → List ℕ
agent kind x ys l = kind ∷ length ys ∷ (le16 l ++ (le16 0 ++ (x ∷ 0 ∷ (ys ++ replicate (8 - length ys) 0))))

-- an array file with a remark and a word sum that is given
abbrev pub remarked : List ℕ → ℕ → ℕ → List (List ℕ) → List ℕ
remarked remark sum names records =
    remark ++ (join records ++ (le32 (length remark) ++ (le16 (length records) ++ (le16 names ++ (le32 sum ++ le32 pis1)))))

-- an array file without a remark
abbrev pub pis : ℕ → List (List ℕ) → List ℕ
pis names records = sealed (join records ++ (le32 0 ++ (le16 (length records) ++ le16 names))) pis1

-- the word sum of such a file
abbrev pub sum_of : ℕ → List (List ℕ) → ℕ
sum_of names records = let s = join records ++ (le32 0 ++ (le16 (length records) ++ le16 names)) in word_sum s (length s / 4)

-- a row whose first byte is given
abbrev pub row : ℕ → List ℕ
row first = first ∷ replicate 31 0

-- a claim of set n on balance k; one that stands alone on balance 0
abbrev pub claim_bytes_in : ℕ → ℕ → ℕ → ℕ → List ℕ
claim_bytes_in n k agent most = le16 agent ++ (le16 most ++ (le16 k ++ le16 n))

abbrev pub claim_bytes : ℕ → ℕ → List ℕ
claim_bytes agent most = claim_bytes_in 0 0 agent most

abbrev pub numbers : List ℕ → List ℕ
numbers [] = []
numbers (w ∷ ws) = le16 w ++ numbers ws

-- a balance: bound, weights and padding
abbrev pub balance : ℕ → List ℕ → List ℕ
balance bound weights = le32 bound ++ numbers weights

-- a table file of rows, balances and claims, for an array with a word sum
abbrev pub balanced : ℕ → List (List ℕ) → List (List ℕ) → List (List ℕ) → List ℕ
balanced sum rows balances claims =
    let r = join rows in
    let b = join balances in
    let c = join claims in
    let starts = le32 0 ++ (le32 (length r) ++ le32 (length r + length b)) in
    sealed (r ++ (b ++ (c ++ (starts ++ (le16 (length balances) ++ (le16 (length claims) ++ le32 sum)))))) pic1

-- one of one balance (bound, weights and padding)
abbrev pub pic : ℕ → List (List ℕ) → ℕ → List ℕ → List (List ℕ) → List ℕ
pic sum rows bound weights claims = balanced sum rows (balance bound weights ∷ []) claims

-- ---- A, B and C

abbrev pub nodes_a : List (List ℕ)
nodes_a = new 0 1 ∷ new 1 2 ∷ par 3 5 ∷ passing 4 0 1 4 ∷ stop ∷ passing 5 0 2 6 ∷ plain 4 2 7 ∷ stop ∷ []

abbrev pub nodes_b : List (List ℕ)
nodes_b = new 0 1 ∷ par 2 4 ∷ plain 4 0 3 ∷ stop ∷ plain 6 0 5 ∷ plain 4 0 6 ∷ stop ∷ []

abbrev pub nodes_c : List (List ℕ)
nodes_c = new 0 1 ∷ choice 2 4 ∷ plain 4 0 3 ∷ stop ∷ plain 5 0 5 ∷ stop ∷ []

-- A's table: rows by their first bytes, the bound, the weights of nodes 5 and 6, the claim's most
abbrev pub table_bytes_a : ℕ → ℕ → ℕ → ℕ → ℕ → List ℕ
table_bytes_a row1 row2 bound w6 most =
    pic (sum_of 3 nodes_a) (row 1 ∷ row row1 ∷ row row2 ∷ []) bound (0 ∷ 0 ∷ 0 ∷ 0 ∷ 0 ∷ 1 ∷ w6 ∷ 0 ∷ []) (claim_bytes 6 most ∷ [])

-- A's table with another weight of node 6 and other claims
abbrev pub sets_of_a : ℕ → List (List ℕ) → List ℕ
sets_of_a w6 claims = pic (sum_of 3 nodes_a) (row 1 ∷ row 2 ∷ row 2 ∷ []) 1 (0 ∷ 0 ∷ 0 ∷ 0 ∷ 0 ∷ 1 ∷ w6 ∷ 0 ∷ []) claims

-- A's table with claims of agents 5 and 6 in order; the other way round, with another weight of node 6; and with one of them twice
abbrev pub in_order_a : List ℕ
in_order_a = sets_of_a 1 (claim_bytes 5 1 ∷ claim_bytes 6 1 ∷ [])

abbrev pub turned_a : ℕ → List ℕ
turned_a w6 = sets_of_a w6 (claim_bytes 6 1 ∷ claim_bytes 5 1 ∷ [])

abbrev pub repeated_a : List ℕ
repeated_a = sets_of_a 1 (claim_bytes 6 1 ∷ claim_bytes 5 1 ∷ claim_bytes 6 1 ∷ [])

-- A's table with a second balance, w5 = 300 and w6 = 299, and a claim on it
abbrev pub two_balances : List ℕ
two_balances =
    let first = balance 1 (0 ∷ 0 ∷ 0 ∷ 0 ∷ 0 ∷ 1 ∷ 1 ∷ 0 ∷ []) in
    let second = balance 70000 (0 ∷ 0 ∷ 0 ∷ 0 ∷ 0 ∷ 300 ∷ 299 ∷ 0 ∷ []) in
    balanced (sum_of 3 nodes_a) (row 1 ∷ row 2 ∷ row 2 ∷ []) (first ∷ second ∷ [])
    (claim_bytes 6 1 ∷ claim_bytes_in 0 1 6 233 ∷ claim_bytes_in 0 1 6 234 ∷ claim_bytes_in 0 1 6 235 ∷ [])

-- ---- the rows: array file, table file, and what 01 says

-- M, N, K and Q of a table lettered PIC1
abbrev pub sizes : ℕ → ℕ → ℕ → ℕ → Sizes
sizes m n k q = record { nodes = m; names = n; balances = k; claims = q; form = Some Pic1 }

pub record Case : Type 0 where
  pub array : List ℕ
  pub table : List ℕ
  pub says : Outcome

abbrev pub case : List ℕ → List ℕ → Outcome → Case
case f s x = record { array = f; table = s; says = x }

abbrev pub cases : List Case
cases =
    -- *A is accepted. For A: `held 8 3 1 1`.
    case (pis 3 nodes_a) (table_bytes_a 2 2 1 1 1) (held (sizes 8 3 1 1))
    -- *A with most 0: rule 5, claim 0.
    ∷ case (pis 3 nodes_a) (table_bytes_a 2 2 1 1 0) (rule 5 (0 ∷ []))
    -- *A, bound 0: rule 2, balance 0.
    ∷ case (pis 3 nodes_a) (table_bytes_a 2 2 0 1 1) (rule 2 (0 ∷ []))
    -- *A, row 2 empty: rule 3 at 5, 3, 1.
    ∷ case (pis 3 nodes_a) (table_bytes_a 2 0 1 1 1) (rule 3 (5 ∷ 3 ∷ 1 ∷ []))
    -- *A, row 1 empty: rule 1 at 1.
    ∷ case (pis 3 nodes_a) (table_bytes_a 0 2 1 1 1) (rule 1 (1 ∷ []))
    -- *A, w6 = 2: rule 4 at 5, 3, 0.
    ∷ case (pis 3 nodes_a) (table_bytes_a 2 2 1 2 1) (rule 4 (5 ∷ 3 ∷ 0 ∷ []))
    -- *B, w2 = w5 = 1, bound 1: accepted. M is 7, so the weights are padded.
    ∷ case (pis 1 nodes_b) (pic (sum_of 1 nodes_b) (row 1 ∷ []) 1 (0 ∷ 0 ∷ 1 ∷ 0 ∷ 0 ∷ 1 ∷ 0 ∷ 0 ∷ []) []) (held (sizes 7 1 1 0))
    -- *B, only w5 = 1, bound 1: rule 4 at 4, 2, 0.
    ∷ case (pis 1 nodes_b) (pic (sum_of 1 nodes_b) (row 1 ∷ []) 1 (0 ∷ 0 ∷ 0 ∷ 0 ∷ 0 ∷ 1 ∷ 0 ∷ 0 ∷ []) []) (rule 4 (4 ∷ 2 ∷ 0 ∷ []))
    -- *C, w2 = w4 = 1, bound 1: accepted, pair not live.
    ∷ case (pis 1 nodes_c) (pic (sum_of 1 nodes_c) (row 1 ∷ []) 1 (0 ∷ 0 ∷ 1 ∷ 0 ∷ 1 ∷ 0 ∷ []) []) (held (sizes 6 1 1 0))
    -- A with a second balance, bound 70,000: 299 × 234 does not exceed it. In balance 0 claim 1 would keep rule 5.
    ∷ case (pis 3 nodes_a) two_balances (rule 5 (1 ∷ []))
    -- A with claims of sets 0, 256 and 256, the last of agent 6, which weighs nothing here: its set's first claim is named.
    ∷ case (pis 3 nodes_a) (sets_of_a 0 (claim_bytes 5 1 ∷ claim_bytes_in 256 0 5 1 ∷ claim_bytes_in 256 0 6 1 ∷ [])) (rule 5 (1 ∷ []))
    ∷ []

-- What `holds`, `bounds`, `order` and `file` promise is not true of every table, and the first two not of the start alone: of A, agent 5 runs at
-- the start, and agent 6 after its step
pub record Unkept : Type 0 where
  pub holds : Demand3 (pis 3 nodes_a) (table_bytes_a 2 2 1 1 0) → ⊥
  -- agents 5 and 6 in a set of most 0
  pub at_start : SetsBounded (pis 3 nodes_a) (sets_of_a 1 (claim_bytes_in 1 0 5 0 ∷ claim_bytes_in 1 0 6 0 ∷ [])) → ⊥
  -- agent 6 alone in a set of most 0, the second claim
  pub after_step : SetsBounded (pis 3 nodes_a) (sets_of_a 1 (claim_bytes 5 1 ∷ claim_bytes_in 1 0 6 0 ∷ [])) → ⊥
  -- a table with a claim twice; one with its claims the other way round, also with another weight
  pub repeat : OneOrder (pis 3 nodes_a) repeated_a → ⊥
  pub order : OneOrder (pis 3 nodes_a) (turned_a 0) → ⊥
  pub file : OneFile (pis 3 nodes_a) (turned_a 1) → ⊥
  -- claims of which the second differs in its last byte
  pub bytes : SameBytes (pis 3 nodes_a) (sets_of_a 1 (claim_bytes 6 1 ∷ claim_bytes_in 1 0 6 1 ∷ []))
      (sets_of_a 1 (claim_bytes 6 1 ∷ claim_bytes_in 257 0 6 1 ∷ [])) → ⊥

-- What a table says that 31 alone refuses: A's with its claims in another order and one of them twice
pub record Kept : Type 0 where
  pub refuses : files_refusal (pis 3 nodes_a) repeated_a ≡ hit record { number = 31; place = 1 }
  pub rules : Rules (array_in (pis 3 nodes_a)) (table_in (pis 3 nodes_a) repeated_a)
  pub holds : Demand3 (pis 3 nodes_a) repeated_a
  pub bounds : SetsBounded (pis 3 nodes_a) repeated_a

-- ---- the readers: files, and what the reader says

-- B with a remark that makes the word sum wrap: 2^32 - 1 + 67,305,985 and, with the start 8, 8 more than B's own 1,179,676
abbrev pub remark : List ℕ
remark = 255 ∷ 255 ∷ 255 ∷ 255 ∷ 1 ∷ 2 ∷ 3 ∷ 4 ∷ []

abbrev pub remarked_b : List ℕ
remarked_b = remarked remark 68485668 1 nodes_b

-- M, N, K and Q, of a table that breaks a rule; a trailer's numbers
abbrev pub tables_read : List (List ℕ × List ℕ × Sizes)
tables_read = (pis 3 nodes_a, two_balances, sizes 8 3 2 4) ∷ []

abbrev pub arrays_read : List (List ℕ × Trailer)
arrays_read = (remarked_b, record { start = 8; nodes = 7; names = 1; sum = 68485668; form = Some Pis1 }) ∷ []

-- the letters that the files end with: P, I, S, 1 and P, I, C, 1
abbrev pub Letters : Type 0
Letters = (le32 pis1 ≡ 80 ∷ 73 ∷ 83 ∷ 49 ∷ []) × (le32 pic1 ≡ 80 ∷ 73 ∷ 67 ∷ 49 ∷ [])

-- a format that no letters name is refused, by 2 and by 14
pub record OtherFormats : Type 0 where
  pub array : (start nodes names sum n : ℕ)
      → refusal2 record { start = start; nodes = nodes; names = names; sum = sum; form = Some (A.Other n) } ≡ hit record { number = 2; place = 0 }
  pub table : (nodes names balances claims n : ℕ)
      → refusal14 record { nodes = nodes; names = names; balances = balances; claims = claims; form = Some (B.Other n) } ≡ hit record { number = 14; place = 0 }

-- ---- mending: files and a lent output that are refused, with the refusal's number and place, and the output is left as it was

pub record Unmended : Type 0 where
  pub array : List ℕ
  pub table : List ℕ
  pub output : List ℕ
  pub number : ℕ
  pub place : ℕ

abbrev pub unmended_case : List ℕ → List ℕ → List ℕ → ℕ → ℕ → Unmended
unmended_case f s out n p = record { array = f; table = s; output = out; number = n; place = p }

-- what a row says
abbrev pub Denies : Unmended → Type 0
Denies c =
    (mend_reply c.array c.table c.output ≡ refused c.number c.place) × (mend_output c.array c.table c.output ≡ c.output)

abbrev pub unmended : List Unmended
unmended =
    -- "32 when the lent output is shorter than the table": A, where no bit is missing, beside an output one byte shorter
    unmended_case (pis 3 nodes_a) (table_bytes_a 2 2 1 1 1) (replicate (length (table_bytes_a 2 2 1 1 1) - 1) 7) 32 0
    -- "checked after 31": A with a claim twice, beside an output of no bytes
    ∷ unmended_case (pis 3 nodes_a) repeated_a [] 31 1
    ∷ []

-- ---- the engine: a call, and what it answers and leaves

-- Two names are sent to a resource, which opens a third name and then has choice node 8: nothing, or an out on the opened name.
abbrev pub nodes_e : List (List ℕ)
nodes_e =
    new 0 1
    ∷ new 1 2
    ∷ par 3 4
    ∷ agent 4 0 (1 ∷ 0 ∷ []) 5
    ∷ agent 6 0 (2 ∷ 3 ∷ []) 6
    ∷ plain 4 1 7
    ∷ new 4 8
    ∷ stop
    ∷ choice 9 10
    ∷ stop
    ∷ agent 4 4 (2 ∷ 3 ∷ []) 11
    ∷ stop
    ∷ []

-- every choice to the left; choice node 8 to the right: byte 1, weight 1
abbrev pub to_left : List ℕ
to_left = replicate 128 0

abbrev pub to_right : List ℕ
to_right = 0 ∷ 1 ∷ replicate 126 0

-- lists after the start of A, B and E
abbrev pub started_a : Memory
started_a = memory (3 ∷ 0 ∷ 1 ∷ 65537 ∷ 0 ∷ 5 ∷ 0 ∷ 1 ∷ 0 ∷ 0 ∷ []) 2 [] 0

abbrev pub started_b : List ℕ → Memory
started_b markers = memory (2 ∷ 0 ∷ 1 ∷ 4 ∷ 0 ∷ 1 ∷ []) 2 markers 0

abbrev pub words_e : List ℕ
words_e = 3 ∷ 0 ∷ 1 ∷ 65537 ∷ 0 ∷ 0 ∷ 0 ∷ 4 ∷ 0 ∷ 1 ∷ 0 ∷ 0 ∷ 0 ∷ 0 ∷ []

abbrev pub started_e : Memory
started_e = memory (words_e ++ replicate 8 7) 2 (9 ∷ 9 ∷ 9 ∷ 9 ∷ 9 ∷ []) 0

-- E's threads after its step: the resource, the out on name 4 (opened by new 4 under marker 1: 1 + 65,536 × 4 + 1), the sender's continuation
abbrev pub four : List ℕ
four = 4 ∷ 0 ∷ 1 ∷ 0 ∷ 0 ∷ 0 ∷ 0 ∷ []

abbrev pub ten : List ℕ
ten = 10 ∷ 1 ∷ 0 ∷ 0 ∷ 65537 ∷ 1 ∷ 262146 ∷ []

abbrev pub five : List ℕ
five = 5 ∷ 0 ∷ 0 ∷ 65537 ∷ 0 ∷ 0 ∷ 0 ∷ []

abbrev pub stepped_e : List ℕ
stepped_e = four ++ (ten ++ (five ++ (7 ∷ [])))

-- two entries, the first that of E's step
abbrev pub entries_e : List ℕ
entries_e = 4 ∷ 3 ∷ 0 ∷ 0 ∷ 4 ∷ 10 ∷ 0 ∷ 0 ∷ 9 ∷ []

abbrev pub counts : ℕ → ℕ → Counts
counts k j = record { threads = k; markers = j }

-- one step told: agents 4 and 3, marker 1, 5 threads, 2 markers, 6 steps left of 300
abbrev pub told_e : Turn
told_e = record { receiver = 4; sender = 3; marker = 1; counts = counts 5 2; allowance = record { allowed = 300; left = 6 } }

pub data Call : Type 0 where
  start : List ℕ → List ℕ → List ℕ → Left ℕ → Call
  step : List ℕ → List ℕ → Memory → ℕ → ℕ → Left Counts → Call
  stride : List ℕ → List ℕ → Memory → Allowance → Left Told → Call

-- what a row says
abbrev pub Answered : Call → Type 0
Answered (start f choices l x) = start_of f choices (memory l 0 [] 0) ≡ x
Answered (step f choices m r s x) = step_of f choices m r s ≡ x
Answered (stride f choices m w x) = stride_of f choices m w ≡ x

abbrev pub calls : List Call
calls =
    start (pis 5 nodes_e) to_right (replicate 15 7) (left (done 2) (words_e ++ (7 ∷ [])) [])
    -- B with a second name, which nothing binds: 11 at name 1
    ∷ start (pis 2 nodes_b) to_left (7 ∷ 7 ∷ []) (left (refused 11 1) (7 ∷ 7 ∷ []) [])
    ∷ step (pis 5 nodes_e) to_right started_e 1 0 (left (done (counts 3 1)) stepped_e (4 ∷ 3 ∷ 0 ∷ 0 ∷ 9 ∷ []))
    -- the same step beside two threads of agent 5, its marker listed, in a walk of 300 steps with 7 left
    ∷ stride (pis 5 nodes_e) to_right (memory (words_e ++ (five ++ (five ++ replicate 8 7))) 4 entries_e 2) record { allowed = 300; left = 7 }
    (left (done (T.Made told_e)) (four ++ (five ++ (five ++ (ten ++ (five ++ (7 ∷ [])))))) entries_e)
    -- B with a ready pair and none of 300 steps left
    ∷ stride (pis 1 nodes_b) to_left (started_b []) record { allowed = 300; left = 0 } (left (done (T.Ended Spent 300)) (started_b []).threads [])
    ∷ []

-- ---- the walk's own answer: whatever answer has the promise on these files and lists is this one

pub record Ended : Type 0 where
  pub array : List ℕ
  pub lent : Memory
  pub allowed : ℕ
  pub walk : Walk

abbrev pub walk_case : List ℕ → Memory → ℕ → Walk → Ended
walk_case f m k w = record { array = f; lent = m; allowed = k; walk = w }

abbrev pub Answers : Ended → Type 0
Answers c = (x : Result Walk Refusal) (l ml : List ℕ) → WalkPromise c.array to_left c.lent c.allowed x l ml → x ≡ Ok c.walk

abbrev pub endings : List Ended
endings =
    -- A: quiet after its step
    walk_case (pis 3 nodes_a) started_a 5 record { ending = Quiet; steps = 1; counts = counts 1 0 }
    -- "B with 2 steps allowed: spent"
    ∷ walk_case (pis 1 nodes_b) (started_b (replicate 8 9)) 2 record { ending = Spent; steps = 2; counts = counts 2 2 }
    -- B without room for a marker: full
    ∷ walk_case (pis 1 nodes_b) (started_b []) 2 record { ending = Full; steps = 0; counts = counts 2 0 }
    ∷ []

-- ---- numbers that the entries do not refuse by: those next to the listed ones

pub record Unlisted : Type 0 where
  pub array : (ArrayNumber 0 → ⊥) × (ArrayNumber 13 → ⊥)
  pub table : (TableNumber 0 → ⊥) × (TableNumber 22 → ⊥) × (TableNumber 29 → ⊥) × (TableNumber 32 → ⊥)
  pub mend : (MendNumber 0 → ⊥) × (MendNumber 22 → ⊥) × (MendNumber 29 → ⊥) × (MendNumber 33 → ⊥)
  pub start : (StartNumber 13 → ⊥) × (StartNumber 23 → ⊥) × (StartNumber 27 → ⊥) × (StartNumber 29 → ⊥)
  pub step : (StepNumber 13 → ⊥) × (StepNumber 21 → ⊥) × (StepNumber 30 → ⊥)
  pub walk : (WalkNumber 13 → ⊥) × (WalkNumber 21 → ⊥) × (WalkNumber 24 → ⊥) × (WalkNumber 28 → ⊥)
