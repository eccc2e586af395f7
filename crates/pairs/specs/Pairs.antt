-- Rules 3 and 4 as one search over receiver, sender and a last figure, and the same by the checker's own lists.
use Rattle.std.specs.Prelude.{Option, Some, None, ℕ, suc, ◌+◌, ◌-◌, ◌≤◌, ◌<◌, ◌≡◌, Bool, true, false, cond, not, ◌&&◌, List, [], ◌∷◌, eqb, leb, ltb, length, get_or}
use Rattle.laws.specs.Search.{clear, hit, test, first, every}
use Rattle.marks.specs.Marks.{HasRow, marked, share, inside}
use Rattle.model.specs.Tree.{Array, Agent, agent_at, node_at, is_agent, proc_at, load}
use Rattle.model.specs.Memory.{is_out, is_resource}
use Rattle.model.specs.Rules.{Table, Broken, Verdict, at, within, load_left, weight_gone, on_live, pairs}
use Rattle.records.specs.declared.Record.{Record}
use Rattle.records.specs.declared.Trailer.{Trailer}
use Rattle.records.specs.Record.{node_of, array_of}
use Rattle.records.specs.Kinds.{is_receiver}
use Rattle.arrays.specs.File.{IsRead}
use Rattle.arrays.specs.Agents.{Reads}
use Rattle.loads.specs.Loads.{entry_index, load_in, Half}
use Rattle.pairs.specs.declared.Side.{Side}
use Rattle.pairs.specs.declared.PairRule.{PairRule}
use Rattle.pairs.specs.declared.PairRule.TheVariants.{Third, Fourth}
use Rattle.pairs.specs.declared.Place.{Place}

-- ---- the table that the checker's lists stand for: rows of marks, loads and bounds of n balances; the claims stay in the file

abbrev pub list_table : List ℕ → List ℕ → List ℕ → ℕ → Table
list_table rows loads bounds n = record {
  row = marked rows;
  balances = n;
  balance = λ k. record { bound = get_or bounds k 0; weight = λ i. load_in loads i k };
  claims = 0;
  claim = λ c. record { agent = 0; most = 0; balance = 0; set = 0 };
}

-- the lists have room for n balances and 256 names
pub record Lists (n : ℕ) (rows bounds : List ℕ) : Type 0 where
  pub few : n ≤ 24
  pub many_rows : length rows ≡ 1024
  pub many_bounds : length bounds ≡ 24

-- the loads of node i are there in n balances
abbrev pub HalfRow : List ℕ → ℕ → ℕ → Type 0
HalfRow loads n i = (k : ℕ) → k < n → Half loads i k

-- the loads agree with the weights: each is the load of its node, where agents weigh what the list says
pub record Weighed (loads : List ℕ) (a : Array) (n : ℕ) : Type 0 where
  pub half : (i : ℕ) → i < a.size → HalfRow loads n i
  pub weighs : (i k : ℕ) → i < a.size → k < n → load_in loads i k ≡ load (λ j. load_in loads j k) (proc_at a i)
  -- at most 1,024 weights of 16 bits each, which are less than 2^27
  pub small : (i k : ℕ) → i < a.size → k < n → load_in loads i k < 134217728
  pub light : (i k : ℕ) → is_agent (node_at a i) ≡ true → k < n → load_in loads i k < 65536

-- an array file, and lists of n balances
pub record Setting : Type 0 where
  pub f : List ℕ
  pub t : Trailer
  pub n : ℕ
  pub rows : List ℕ
  pub loads : List ℕ
  pub bounds : List ℕ

abbrev pub setting : List ℕ → Trailer → ℕ → List ℕ → List ℕ → List ℕ → Setting
setting f t n rows loads bounds = record { f = f; t = t; n = n; rows = rows; loads = loads; bounds = bounds }

pub record Given (S : Setting) : Type 0 where
  pub read : IsRead S.f S.t
  pub lists : Lists S.n S.rows S.bounds
  pub weighed : Weighed S.loads (array_of S.f S.t) S.n

-- the same but for the rows, which a mender changes
pub record IsWeighed (f : List ℕ) (t : Trailer) (n : ℕ) (loads bounds : List ℕ) : Type 0 where
  pub read : IsRead f t
  pub few : n ≤ 24
  pub many_bounds : length bounds ≡ 24
  pub weighed : Weighed loads (array_of f t) n

abbrev pub array_in : Setting → Array
array_in S = array_of S.f S.t

abbrev pub table_in : Setting → Table
table_in S = list_table S.rows S.loads S.bounds S.n

-- a side of the file
abbrev pub Held : Setting → Side → Type 0
Held S p = Reads S.f S.t p.number p.node

-- ---- the last figure: arguments for rule 3, balances for rule 4

-- a rule's number in 01
abbrev pub rule_number : PairRule → ℕ
rule_number Third = 3
rule_number Fourth = 4

abbrev pub figures : ℕ → Table → Agent → ℕ
figures rule t p = cond (eqb rule 3) (length p.args) t.balances

abbrev pub figure_holds : ℕ → Table → ℕ → ℕ → Agent → Agent → ℕ → Bool
figure_holds rule t i j p q n =
    cond (eqb rule 3) (within t (get_or q.args n 0) (get_or p.args n 0)) (leb (load_left (t.balance n) p q) (weight_gone (t.balance n) i j p))

-- "(p, q, argument from 1)", "(p, q, balance)"
abbrev pub place_of : ℕ → ℕ → ℕ → ℕ → Broken
place_of rule i j n = cond (eqb rule 3) (at 3 (i ∷ j ∷ suc n ∷ [])) (at 4 (i ∷ j ∷ n ∷ []))

unfoldable pub at_pair : ℕ → Table → ℕ → ℕ → Agent → Agent → Verdict
at_pair rule t i j p q = first (figures rule t p) λ n. test (figure_holds rule t i j p q n) (place_of rule i j n)

-- rule 3 or 4 over all live pairs
abbrev pub pairs_of : ℕ → Array → Table → Verdict
pairs_of rule a t = pairs a t (at_pair rule t)

-- what is found at receiver i: the first of its live pairs that breaks the rule
abbrev pub pairs_at : ℕ → Array → Table → ℕ → Verdict
pairs_at rule a t i = first a.size λ j. on_live t i j (agent_at a i) (agent_at a j) (at_pair rule t i j)

-- nothing is found below node `from`
abbrev pub Screened : ℕ → Array → Table → ℕ → Type 0
Screened rule a t from = (i : ℕ) → i < from → pairs_at rule a t i ≡ clear

-- what a search over the pairs answers
abbrev pub placed : ℕ → Option Place → Verdict
placed rule None = clear
placed rule (Some p) = hit (place_of rule p.receiver p.sender p.figure)

-- a last figure is small: there are at most 8 arguments and 24 balances
abbrev pub SmallFigure : Option Place → Type 0
SmallFigure None = Unit {0}
SmallFigure (Some p) = p.figure < 24

-- ---- the same of two sides, p and q, by the lists

-- how many figures of a receiver have to be looked at; none of a node that does not receive
abbrev pub figures_of : ℕ → ℕ → Record → ℕ
figures_of rule n r = cond (is_receiver (node_of r)) (cond (eqb rule 3) r.arity n) 0

-- balance k bears the weights of nodes i and j
abbrev pub bears_both : List ℕ → List ℕ → ℕ → ℕ → ℕ → Bool
bears_both loads bounds i j k = leb (load_in loads i k + load_in loads j k) (get_or bounds k 0)

-- q sends, by p's arity, on a channel whose row shares a bit with that of p's
abbrev pub meets : List ℕ → Side → Side → Bool
meets rows p q =
    is_out (node_of q.node) && eqb p.node.arity q.node.arity && share rows p.node.name rows q.node.name

-- with the receiver p it is a live pair
abbrev pub live_pair : List ℕ → List ℕ → List ℕ → ℕ → Side → Side → Bool
live_pair rows loads bounds n p q = meets rows p q && every n (bears_both loads bounds p.number q.number)

abbrev pub argument_holds : List ℕ → Side → Side → ℕ → Bool
argument_holds rows p q n = inside rows (get_or q.node.args n 0) rows (get_or p.node.args n 0)

-- what goes of a receiver's weight: nothing where it stays
abbrev pub gone_of : Bool → ℕ → ℕ
gone_of stays weight = cond stays 0 weight

abbrev pub taken_of : Record → ℕ → ℕ
taken_of r weight = gone_of (is_resource (node_of r)) weight

-- both continuations are within the sender's weight and what goes of the receiver's
abbrev pub balance_holds : List ℕ → Side → Side → ℕ → Bool
balance_holds loads p q k =
    leb (load_in loads p.node.left k + load_in loads q.node.left k) (load_in loads q.number k + taken_of p.node (load_in loads p.number k))

abbrev pub holds_at : ℕ → List ℕ → List ℕ → Side → Side → ℕ → Bool
holds_at rule rows loads p q n = cond (eqb rule 3) (argument_holds rows p q n) (balance_holds loads p q n)

-- the rule holds at every figure
abbrev pub all_hold : ℕ → ℕ → List ℕ → List ℕ → Side → Side → Bool
all_hold rule n rows loads p q = cond (eqb rule 3) (every p.node.arity (argument_holds rows p q)) (every n (balance_holds loads p q))

-- the pair is live, and breaks the rule
abbrev pub breaks_pair : ℕ → Setting → Side → Side → Bool
breaks_pair rule S p q = live_pair S.rows S.loads S.bounds S.n p q && not (all_hold rule S.n S.rows S.loads p q)

-- ---- the same by differences: those of a receiver are worked out before its senders are looked at

-- what sender j with continuation r needs of a receiver in balance k: load of the continuation + 65,536 − weight, a natural number
abbrev pub need_of : List ℕ → ℕ → ℕ → ℕ → ℕ
need_of loads j r k = (load_in loads r k + 65536) - load_in loads j k

-- what receiver p gives in balance k: 65,536 + what goes of its weight − load of its continuation, or 0
abbrev pub give_of : List ℕ → Side → ℕ → ℕ
give_of loads p k = (65536 + taken_of p.node (load_in loads p.number k)) - load_in loads p.node.left k

-- two weights are below 131,071 together, so that a greater bound says no more
abbrev pub capped : ℕ → ℕ
capped bound = cond (ltb bound 131071) bound 131071

-- one more than what a sender may weigh beside receiver p, or 0
abbrev pub room_of : List ℕ → List ℕ → Side → ℕ → ℕ
room_of loads bounds p k = (capped (get_or bounds k 0) + 1) - load_in loads p.number k

-- the lists of both, of receiver p in n balances
abbrev pub Differences : ℕ → List ℕ → List ℕ → Side → List ℕ → List ℕ → Type 0
Differences n loads bounds p gives rooms =
    (k : ℕ) → k < n → (get_or gives k 0 ≡ give_of loads p k) × (get_or rooms k 0 ≡ room_of loads bounds p k)

pub record DifferencesOf (S : Setting) (p : Side) (gives rooms : List ℕ) : Type 0 where
  pub many_gives : length gives ≡ 24
  pub many_rooms : length rooms ≡ 24
  pub are : Differences S.n S.loads S.bounds p gives rooms

-- sender j fits beside the receiver in balance k
abbrev pub fits_beside : List ℕ → List ℕ → ℕ → ℕ → Bool
fits_beside loads rooms j k = ltb (load_in loads j k) (get_or rooms k 0)

-- the receiver gives as much as is needed
abbrev pub enough : List ℕ → ℕ → ℕ → Bool
enough gives k need = not (ltb (get_or gives k 0) need)

abbrev pub gives_to : List ℕ → List ℕ → ℕ → ℕ → ℕ → Bool
gives_to loads gives j r k = enough gives k (need_of loads j r k)

abbrev pub live_by : List ℕ → List ℕ → List ℕ → ℕ → Side → Side → Bool
live_by rows loads rooms n p q = meets rows p q && every n (fits_beside loads rooms q.number)

abbrev pub holds_by : ℕ → List ℕ → List ℕ → List ℕ → Side → Side → ℕ → Bool
holds_by rule rows loads gives p q n = cond (eqb rule 3) (argument_holds rows p q n) (gives_to loads gives q.number q.node.left n)

abbrev pub all_hold_by : ℕ → ℕ → List ℕ → List ℕ → List ℕ → Side → Side → Bool
all_hold_by rule n rows loads gives p q =
    cond (eqb rule 3) (every p.node.arity (argument_holds rows p q)) (every n (gives_to loads gives q.number q.node.left))

-- ---- what the lists have of sides that were read

-- rows of an agent's channel
abbrev pub NameRow : List ℕ → Side → Type 0
NameRow rows p = is_agent (node_of p.node) ≡ true → HasRow rows p.node.name

-- rows of argument n of both
abbrev pub ArgumentRows : List ℕ → Side → Side → ℕ → Type 0
ArgumentRows rows p q n = (n < 8) × HasRow rows (get_or p.node.args n 0) × HasRow rows (get_or q.node.args n 0)

-- entry k of a list is there, and may be compared
abbrev pub Small : List ℕ → ℕ → Type 0
Small xs k = (k < length xs) × (get_or xs k 0 < 2147483648)

-- what sender j with continuation r needs can be worked out: the continuation's load is at most 1,024 weights, its own weight has 16 bits
abbrev pub NeedThere : List ℕ → ℕ → ℕ → ℕ → Type 0
NeedThere loads j r k =
    (entry_index r k < length loads) × (load_in loads r k < 134217728) × (entry_index j k < length loads) × (load_in loads j k < 65536)

-- what rule 4 compares in balance k
abbrev pub Gives : List ℕ → List ℕ → ℕ → ℕ → ℕ → Type 0
Gives loads gives j r k = Small gives k × NeedThere loads j r k

-- what the rule compares: rows of all arguments, or what is given and needed in n balances
abbrev pub Figures : ℕ → ℕ → List ℕ → List ℕ → List ℕ → Side → Side → Type 0
Figures rule n rows loads gives p q =
    (eqb rule 3 ≡ true → (m : ℕ) → m < p.node.arity → ArgumentRows rows p q m)
    × (eqb rule 3 ≡ false → (k : ℕ) → k < n → Gives loads gives q.number q.node.left k)

-- what liveness compares in n balances
abbrev pub Rooms : ℕ → List ℕ → List ℕ → ℕ → Type 0
Rooms n loads rooms j = (n ≤ length rooms) × ((k : ℕ) → k < n → (get_or rooms k 0 < 2147483648) × Half loads j k)
