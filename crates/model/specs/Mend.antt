-- Mending a flow table (02, request iv): the smallest rows that contain the given ones and meet rules 1 and 3 under the table's balances.
use Rattle.std.specs.Prelude.{ℕ, zero, suc, ◌*◌, ◌≡◌, Bool, true, false, not, ◌&&◌, ◌||◌, eqb, get_or}
use Rattle.std.proofs.Math.Option.{Option, none, some}
use Rattle.laws.specs.Search.{any, sum}
use Rattle.laws.specs.Lists.{one}
use Rattle.model.specs.Tree.{Array, Agent, agent_at, is_new}
use Rattle.model.specs.Rules.{Table, row_bits, live, arity, Each, Rule1, Rule3}

-- ---- rows, and their order

abbrev pub Rows : Type 0
Rows = ℕ → ℕ → Bool

-- "leaves balances and claims": the table with other rows
abbrev pub with_rows : Table → Rows → Table
with_rows t r = record { row = r; balances = t.balances; balance = t.balance; claims = t.claims; claim = t.claim }

-- what a row says of an opening, no or yes: at most as much as another says
abbrev pub AtMost : Bool → Bool → Type 0
AtMost x y = x ≡ true → y ≡ true

-- it says more than another
abbrev pub raised : Bool → Bool → Bool
raised y x = y && not x

-- rows r are contained in rows s: what they say of each opening is at most what s say, at every name of the array
abbrev pub Contained : Array → Rows → Rows → Type 0
Contained a r s = Each a.names λ v. Each row_bits λ o. AtMost (r v o) (s v o)

-- "rows .. that contain the given ones and meet both rules under those balances": pairs live by these rows, not by the given ones
pub record Mends (a : Array) (t : Table) (r : Rows) : Type 0 where
  pub contains : Contained a t.row r
  pub rule1 : Rule1 a (with_rows t r)
  pub rule3 : Rule3 a (with_rows t r)

-- "the smallest" of them: every other choice contains them
pub record Smallest (a : Array) (t : Table) (r : Rows) : Type 0 where
  pub mends : Mends a t r
  pub least : (s : Rows) → Mends a t s → Contained a r s

-- ---- how they are found: "sets bits until rules 1 and 3 hold"

-- rule 3 asks a live pair of nodes i and j for bit o in row v: an argument whose row has the bit is matched by parameter v
unfoldable pub pair_asks : Table → ℕ → ℕ → Option Agent → Option Agent → ℕ → ℕ → Bool
pair_asks t i j none q v o = false
pair_asks t i j (some p) none v o = false
pair_asks t i j (some p) (some q) v o = live t i j p q && (any (arity p) λ n. eqb (get_or p.args n 0) v && t.row (get_or q.args n 0) o)

-- rule 1 or rule 3 asks for bit o in row v
unfoldable pub asked : Array → Table → ℕ → ℕ → Bool
asked a t v o = (is_new a o && eqb v o) || (any a.size λ i. any a.size λ j. pair_asks t i j (agent_at a i) (agent_at a j) v o)

-- every bit that is asked for is set
unfoldable pub round : Array → Table → Rows → Rows
round a t r v o = r v o || asked a (with_rows t r) v o

unfoldable pub rounds : ℕ → Array → Table → Rows → Rows
rounds zero a t r = r
rounds (suc d) a t r = rounds d a t (round a t r)

-- a round that is not the last sets a bit, so that as many rounds as there are bits are enough
unfoldable pub mended : Array → Table → Rows
mended a t = rounds (a.names * row_bits) a t t.row

-- "returns the number of bits set": those that rows s have and rows r have not
unfoldable pub bits_set : Array → Rows → Rows → ℕ
bits_set a r s = sum a.names λ v. sum row_bits λ o. one (raised (s v o) (r v o))
