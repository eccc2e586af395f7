-- How rows grow while a table is mended. The names whose rows got a mark are noted: only pairs that use such a name have to be looked at again.
use Rattle.std.specs.Prelude.{ℕ, ◌<◌, ◌≡◌, ◌⊎◌, Bool, true, false, not, ◌&&◌, ◌||◌, List, eqb, ltb, length, get_or}
use Rattle.laws.specs.Search.{every}
use Rattle.marks.specs.Marks.{marked, mark_if, inside, Joined}
use Rattle.model.specs.Tree.{Array, is_new}
use Rattle.model.specs.Rules.{Rule3}
use Rattle.model.specs.Mend.{Rows, with_rows}
use Rattle.records.specs.declared.Record.{Record}
use Rattle.records.specs.Record.{node_of}
use Rattle.records.specs.Kinds.{is_receiver}
use Rattle.pairs.specs.declared.Side.{Side}
use Rattle.loads.specs.Loads.{load_in}
use Rattle.pairs.specs.Pairs.{Setting, setting, Held, array_in, table_in, live_pair, breaks_pair}
use Rattle.senders.specs.declared.Sets.{Sets}
use Rattle.senders.specs.Sets.{family, sends_marked, sends_by, Gathered}
use Rattle.filter.specs.Filter.{may_come, arg_inside}

-- ---- rows that grow

-- every mark of the list is in rows M
abbrev pub Below : List ℕ → Rows → Type 0
Below rows M = (v o : ℕ) → o < 256 → marked rows v o ≡ true → M v o ≡ true

-- the list with rows, and the names noted, before and after; nothing is set that rows with property C can do without
pub record Grew (C : Rows → Type 0) (rows names rows' names' : List ℕ) : Type 0 where
  pub size : length rows' ≡ length rows
  pub marks : length names' ≡ length names
  pub more : (v o : ℕ) → o < 256 → marked rows v o ≡ true → marked rows' v o ≡ true
  pub keeps : (v : ℕ) → marked names 0 v ≡ true → marked names' 0 v ≡ true
  -- a name whose row got a mark is noted
  pub notes : (v o : ℕ) → o < 256 → marked rows v o ≡ false → marked rows' v o ≡ true → marked names' 0 v ≡ true
  -- and no other
  pub earned : (v : ℕ) → marked names 0 v ≡ false → marked names' 0 v ≡ true
      → (o : ℕ) × (o < 256) × (marked rows v o ≡ false) × (marked rows' v o ≡ true)
  pub least : (M : Rows) → C M → Below rows M → Below rows' M

-- row u has the marks of row v of another list beside its own, and name u is noted where one of them is new
pub record Added (rows names : List ℕ) (u : ℕ) (sent : List ℕ) (v : ℕ) (rows' names' : List ℕ) : Type 0 where
  pub joined : Joined rows rows' u sent v
  pub noted : names' ≡ mark_if names (not (inside sent v rows u)) u

-- ---- what is sent to a receiver: row m of a list has what senders send as argument m

-- the list has what a record sends beside what it had, where the test is true
pub record SentIf (on : Bool) (rows : List ℕ) (r : Record) (sent sent' : List ℕ) : Type 0 where
  pub size : length sent' ≡ length sent
  pub is : (m o : ℕ) → o < 256 → marked sent' m o ≡ marked sent m o || (on && (ltb m r.arity && marked rows (get_or r.args m 0) o))

-- what a record sends as argument m is in the list
abbrev pub sent_at : List ℕ → Record → List ℕ → ℕ → Bool
sent_at rows r sent m = inside rows (get_or r.args m 0) sent m

-- parameter m's row has all of what is sent as its argument
abbrev pub has_at : List ℕ → Record → List ℕ → ℕ → Bool
has_at rows r sent m = inside sent m rows (get_or r.args m 0)

-- row u contains row v of the list, and the rows of n parameters what is sent to each
abbrev pub Asks : ℕ → List ℕ → ℕ → Rows → Type 0
Asks u sent v M = (o : ℕ) → o < 256 → marked sent v o ≡ true → M u o ≡ true

abbrev pub Takes : ℕ → List ℕ → List ℕ → Rows → Type 0
Takes n params sent M = (m : ℕ) → m < n → Asks (get_or params m 0) sent m M

-- ---- what live senders send

-- a sender that is live beside receiver p sends a name, as argument m, that may hold o
pub record Source (S : Setting) (p : Side) (m o : ℕ) : Type 0 where
  pub q : Side
  pub held : Held S q
  pub live : live_pair S.rows S.loads S.bounds S.n p q ≡ true
  pub holds : marked S.rows (get_or q.node.args m 0) o ≡ true

-- the list has nothing but what it had and what live senders send to p
pub record Gained (S : Setting) (p : Side) (sent sent' : List ℕ) : Type 0 where
  pub size : length sent' ≡ length sent
  pub from : (m o : ℕ) → o < 256 → marked sent' m o ≡ true → (marked sent m o ≡ true) ⊎ Source S p m o

-- nothing but what live senders send to p
abbrev pub Only : Setting → Side → List ℕ → Type 0
Only S p sent = (m o : ℕ) → o < 256 → marked sent m o ≡ true → Source S p m o

-- what q sends is in the list, where it is live beside p
abbrev pub Sends : Setting → Side → List ℕ → Side → Type 0
Sends S p sent q =
    live_pair S.rows S.loads S.bounds S.n p q ≡ true → (m : ℕ) → m < p.node.arity → sent_at S.rows q.node sent m ≡ true

-- node j weighs no more than node i in balance k
abbrev pub no_heavier : List ℕ → ℕ → ℕ → ℕ → Bool
no_heavier loads i j k = not (ltb (load_in loads i k) (load_in loads j k))

-- what is live beside p is live beside r: it receives by the same arity, on a channel that holds what p's does, and weighs no more in n balances
pub record Hears (rows loads : List ℕ) (n : ℕ) (p r : Side) : Type 0 where
  pub receives : is_receiver (node_of r.node) ≡ true
  pub arity : r.node.arity ≡ p.node.arity
  pub channel : inside rows p.node.name rows r.node.name ≡ true
  pub light : every n (no_heavier loads p.number r.number) ≡ true

-- ---- pairs of an array

-- rows that meet rule 3 under the setting's balances; the setting's own rows do not matter
abbrev pub RuleThree : Setting → Rows → Type 0
RuleThree S M = Rule3 (array_in S) (with_rows (table_in S) M)

-- the pair uses a marked name: the receiver's channel, the sender's, or what is sent
abbrev pub touches : List ℕ → Side → Side → Bool
touches names p q = marked names 0 p.node.name || (marked names 0 q.node.name || sends_marked names q.node)

-- a pair that breaks rule 3 uses a noted name
abbrev pub Noted : Setting → List ℕ → Side → Side → Type 0
Noted S names p q = breaks_pair 3 S p q ≡ true → touches names p q ≡ true

-- the sets were gathered from rows that differ from these in rows of noted names alone
pub record Stale (S : Setting) (names chosen : List ℕ) (s : Sets) : Type 0 where
  pub old : List ℕ
  pub since : (v o : ℕ) → o < 256 → marked old v o ≡ false → marked S.rows v o ≡ true → marked names 0 v ≡ true
  pub gathered : Gathered 3 (setting S.f S.t S.n old S.loads S.bounds) chosen (family s) s.links

-- no sender of set g may come to receiver p, or all that the set sends is contained
abbrev pub set_clear : List ℕ → List ℕ → List ℕ → Side → ℕ → Bool
set_clear unions arities rows p g =
    not (may_come unions arities rows g p) || every p.node.arity (arg_inside unions rows g p.node.args)

-- ---- which pairs were looked at: each that breaks rule 3 still uses a noted name

-- those of receiver p and the chosen senders of set g
abbrev pub SetNoted : Setting → List ℕ → List ℕ → (ℕ → ℕ) → Side → ℕ → Type 0
SetNoted S names chosen sets p g =
    (q : Side) → Held S q → sends_by chosen q.node ≡ true → sets q.number ≡ g → Noted S names p q

-- those of receiver p and all chosen senders
abbrev pub AllNoted : Setting → List ℕ → List ℕ → Side → Type 0
AllNoted S names chosen p = (q : Side) → Held S q → sends_by chosen q.node ≡ true → Noted S names p q

-- those of node i, where it receives on a name in `reach` (or, where `on` is false, on another)
abbrev pub NodeNoted : Setting → List ℕ → List ℕ → List ℕ → Bool → ℕ → Type 0
NodeNoted S names chosen reach on i =
    (p : Side) → Held S p → p.number ≡ i → is_receiver (node_of p.node) ≡ true → marked reach 0 p.node.name ≡ on → AllNoted S names chosen p

-- those of the nodes below n
abbrev pub Swept : Setting → List ℕ → List ℕ → List ℕ → Bool → ℕ → Type 0
Swept S names chosen reach on n = (i : ℕ) → i < n → NodeNoted S names chosen reach on i

-- all pairs
abbrev pub Clean : Setting → List ℕ → Type 0
Clean S names = (p q : Side) → Held S p → Held S q → is_receiver (node_of p.node) ≡ true → Noted S names p q

-- ---- the rows in the end: they have the marks that there were, meet rule 3, and have no mark that rows which meet it can do without
pub record Finished (S : Setting) (rows' : List ℕ) : Type 0 where
  pub size : length rows' ≡ 1024
  pub more : (v o : ℕ) → o < 256 → marked S.rows v o ≡ true → marked rows' v o ≡ true
  pub rule3 : RuleThree S (marked rows')
  pub least : (M : Rows) → RuleThree S M → Below S.rows M → Below rows' M

-- ---- rule 1: the own mark of each name that a new opens, beside the marks that there were
pub record OwnMarked (a : Array) (n : ℕ) (rows rows' : List ℕ) : Type 0 where
  pub size : length rows' ≡ length rows
  pub is : (v o : ℕ) → o < 256 → marked rows' v o ≡ marked rows v o || (ltb v n && (eqb o v && is_new a v))
