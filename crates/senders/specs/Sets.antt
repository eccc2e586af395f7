-- Sets of senders: what a set keeps of all its senders together, and how they are linked.
use Rattle.std.specs.Prelude.{ℕ, ◌+◌, ◌*◌, ◌≤◌, ◌<◌, ◌≡◌, Bool, true, false, ◌&&◌, ◌||◌, List, eqb, length, get_or, set, replicate}
use Rattle.laws.specs.Search.{any}
use Rattle.marks.specs.Marks.{HasRow, marked, inside}
use Rattle.model.specs.Memory.{is_out}
use Rattle.records.specs.declared.Record.{Record}
use Rattle.records.specs.declared.Trailer.{Trailer}
use Rattle.records.specs.Record.{node_of, record_of}
use Rattle.loads.specs.Loads.{load_in}
use Rattle.pairs.specs.declared.Side.{Side}
use Rattle.pairs.specs.Pairs.{Setting, Held, need_of, NeedThere}
use Rattle.senders.specs.declared.Sets.{Sets}

-- ---- which senders are gathered

-- a marked name is among those that a record sends
abbrev pub sends_marked : List ℕ → Record → Bool
sends_marked names r = any r.arity λ m. marked names 0 (get_or r.args m 0)

-- it sends, and uses a marked name: as its channel or as what it sends
abbrev pub sends_by : List ℕ → Record → Bool
sends_by names r = is_out (node_of r) && (marked names 0 r.name || sends_marked names r)

-- a row with every mark
abbrev pub every_name : List ℕ
every_name = replicate 4 18446744073709551615

-- ---- what a set keeps

-- the mark of arity n in set g
abbrev pub arity_mark : ℕ → ℕ → ℕ
arity_mark g n = 16 * g + n

-- the row of what is sent as argument m; row g is that of the channels
abbrev pub sent_row : ℕ → ℕ → ℕ
sent_row g m = 12 + (8 * g + m)

-- the lists of a family of 12 sets: "the largest need" in each balance, rows of channels and of what is sent, arities
pub record Family : Type 0 where
  pub needs : List ℕ
  pub unions : List ℕ
  pub arities : List ℕ

abbrev pub family : Sets → Family
family s = record { needs = s.needs; unions = s.unions; arities = s.arities }

-- the sum of an entry and a load may be compared
abbrev pub HalfNeeds : List ℕ → Type 0
HalfNeeds needs = (g k : ℕ) → load_in needs g k < 1073741824

pub record Room (F : Family) : Type 0 where
  pub needs : length F.needs ≡ 288
  pub unions : length F.unions ≡ 432
  pub arities : length F.arities ≡ 4
  pub half : HalfNeeds F.needs

-- no sender is there
pub record Vacant (s : Sets) : Type 0 where
  pub room : Room (family s)
  pub links : s.links ≡ replicate 1036 0

-- set g keeps what a record sends, and what sender q needs in n balances
abbrev pub SentKept : List ℕ → List ℕ → ℕ → Record → Type 0
SentKept rows unions g r = (m : ℕ) → m < r.arity → inside rows (get_or r.args m 0) unions (sent_row g m) ≡ true

abbrev pub NeedsKept : ℕ → List ℕ → List ℕ → ℕ → Side → Type 0
NeedsKept n loads needs g q = (k : ℕ) → k < n → need_of loads q.number q.node.left k ≤ load_in needs g k

-- set g keeps what sender q asks of a receiver, by rule 3 what it sends, by rule 4 what it needs
pub record Covers (rule : ℕ) (S : Setting) (F : Family) (g : ℕ) (q : Side) : Type 0 where
  pub arity : marked F.arities 0 (arity_mark g q.node.arity) ≡ true
  pub channel : inside S.rows q.node.name F.unions g ≡ true
  pub sent : eqb rule 3 ≡ true → SentKept S.rows F.unions g q.node
  pub needs : eqb rule 3 ≡ false → NeedsKept S.n S.loads F.needs g q

-- each sender below node n that uses a marked name is kept by its set. Which set that is, is free.
pub record Collected (rule : ℕ) (S : Setting) (names : List ℕ) (F : Family) (sets : ℕ → ℕ) (n : ℕ) : Type 0 where
  pub room : Room F
  pub covers : (q : Side) → Held S q → sends_by names q.node ≡ true → q.number < n → Covers rule S F (sets q.number) q

-- ---- how the lists grow while senders are collected

-- no need gets smaller
pub record NeedsGrow (before after : List ℕ) : Type 0 where
  pub size : length after ≡ length before
  pub more : (g k : ℕ) → load_in before g k ≤ load_in after g k
  pub half : HalfNeeds before → HalfNeeds after

-- each row keeps its marks
pub record RowsGrow (before after : List ℕ) : Type 0 where
  pub size : length after ≡ length before
  pub rows : (x : ℕ) → inside before x after x ≡ true

pub record Grown (F G : Family) : Type 0 where
  pub needs : NeedsGrow F.needs G.needs
  pub unions : RowsGrow F.unions G.unions
  pub size : length G.arities ≡ length F.arities
  pub arities : (o : ℕ) → marked F.arities 0 o ≡ true → marked G.arities 0 o ≡ true

-- the rows of what a record sends are there
pub record SentRows (rows : List ℕ) (r : Record) : Type 0 where
  pub few : r.arity ≤ 8
  pub args : (m : ℕ) → m < r.arity → HasRow rows (get_or r.args m 0)

-- what sender q needs in n balances can be worked out
pub record NeedsThere (n : ℕ) (loads : List ℕ) (q : Side) : Type 0 where
  pub few : n ≤ 24
  pub there : (k : ℕ) → k < n → NeedThere loads q.number q.node.left k

-- the lists have what a set keeps of sender q
pub record Askable (n : ℕ) (rows loads : List ℕ) (q : Side) : Type 0 where
  pub name : HasRow rows q.node.name
  pub sent : SentRows rows q.node
  pub needs : NeedsThere n loads q

-- ---- how the senders of a set are linked, from the last to the first

-- node q is gathered and is of set g
abbrev pub Member : List ℕ → Trailer → List ℕ → (ℕ → ℕ) → ℕ → ℕ → Type 0
Member f t names sets g q = (q < t.nodes) × (sends_by names (record_of f t q) ≡ true) × (sets q ≡ g)

-- node q before the last sender of set g
abbrev pub link : List ℕ → ℕ → ℕ → List ℕ
link links g q = set (set links q (get_or links (1024 + g) 0)) (1024 + g) (q + 1)

-- entry 1,024 + g is 1 + the last sender of set g, and entry q 1 + the sender of its set before q; 0 is none
pub record Linked (f : List ℕ) (t : Trailer) (names : List ℕ) (sets : ℕ → ℕ) (links : List ℕ) : Type 0 where
  pub size : length links ≡ 1036
  pub last : (g q : ℕ) → Member f t names sets g q → q < get_or links (1024 + g) 0
  pub last_of : (g q : ℕ) → get_or links (1024 + g) 0 ≡ q + 1 → Member f t names sets g q
  pub before : (g p q : ℕ) → Member f t names sets g p → Member f t names sets g q → p < q → p < get_or links q 0
  pub before_of : (g p q : ℕ) → Member f t names sets g q → get_or links q 0 ≡ p + 1 → Member f t names sets g p × (p < q)

-- ---- the sets that the lists stand for: each sender that uses a marked name is in one of 12, which keeps it, and the links pass those of each
pub record Gathered (rule : ℕ) (S : Setting) (names : List ℕ) (F : Family) (links : List ℕ) : Type 0 where
  pub sets : ℕ → ℕ
  pub few : (q : ℕ) → sets q < 12
  pub collected : Collected rule S names F sets S.t.nodes
  pub linked : Linked S.f S.t names sets links
