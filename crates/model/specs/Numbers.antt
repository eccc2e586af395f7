-- Markers by number, as lent memory holds them: "Marker 0 is empty; marker i takes four 16-bit numbers at entry i - 1"
-- (01, "Configurations and steps"). Without limits here: 28 and 29 are the engine's. The words that hold the numbers are Memory's.
use Rattle.std.specs.Prelude.{ℕ, zero, suc, ◌≤◌, ◌<◌, ◌≡◌, Bool, cond, ◌&&◌, List, [], ◌∷◌, ◌++◌, map, eqb, ltb, length, get_or}
use Rattle.std.proofs.Math.Option.{none, some}
use Rattle.model.specs.Tree.{Array, Sort, out, inp, resource, agent_at}
use Rattle.model.specs.Calculus.{Marker, Thread, Config, Attempt}

pub record Entry : Type 0 where
  pub resource : ℕ
  pub out : ℕ
  pub left : ℕ
  pub right : ℕ

abbrev pub no_entry : Entry
no_entry = record { resource = 0; out = 0; left = 0; right = 0 }

-- the marker with the number n, to a depth of d
unfoldable pub decode_to : ℕ → List Entry → ℕ → Marker
decode_to zero es n = Marker.empty
decode_to (suc d) es zero = Marker.empty
decode_to (suc d) es (suc k) =
    let e = get_or es k no_entry in
    Marker.node e.resource e.out (decode_to d es e.left) (decode_to d es e.right)

-- "the last two below i", so n is depth enough
unfoldable pub decode : List Entry → ℕ → Marker
decode es n = decode_to n es n

-- "two numbers below its own; no two entries are equal": entry k is marker k + 1
pub record Listed (es : List Entry) : Type 0 where
  pub ordered : (k : ℕ) → k < length es → ((get_or es k no_entry).left ≤ k) × ((get_or es k no_entry).right ≤ k)
  pub distinct : (k l : ℕ) → k < length es → l < length es → get_or es k no_entry ≡ get_or es l no_entry → k ≡ l

unfoldable pub same_entry : Entry → Entry → Bool
same_entry d e = eqb d.resource e.resource && eqb d.out e.out && eqb d.left e.left && eqb d.right e.right

-- the place of an entry: the first that is equal, or the one past the list
unfoldable pub position : Entry → List Entry → ℕ
position e [] = 0
position e (d ∷ es) = cond (same_entry d e) 0 (suc (position e es))

-- "A step whose new marker is already listed uses that number, otherwise it appends one."
unfoldable pub extend : List Entry → Entry → List Entry
extend es e = cond (ltb (position e es) (length es)) es (es ++ (e ∷ []))

-- the entries after a step of receiver r, of a sort, and sender s
unfoldable pub list_after : List Entry → Sort → Thread ℕ ℕ → Thread ℕ ℕ → List Entry
list_after es out r s = es
list_after es inp r s = es
list_after es resource r s = extend es record { resource = r.agent; out = s.agent; left = r.marker; right = s.marker }

-- past the last thread
abbrev pub nobody : Thread ℕ ℕ
nobody = record { agent = 0; marker = 0; env = [] }

-- the entries after an attempt that is not refused
unfoldable pub markers_after : Array → List Entry → Config ℕ ℕ → Attempt → List Entry
markers_after a es c u =
    let r = get_or c u.receiver nobody in
    let s = get_or c u.sender nobody in
    elim (agent_at a r.agent) [ none ↦ es | some p ↦ list_after es p.sort r s ]

-- a thread, read with other markers and cells
abbrev pub map_thread : {X Y C D : Type 0} → (X → Y) → (C → D) → Thread X C → Thread Y D
map_thread f g t = record { agent = t.agent; marker = f t.marker; env = map g t.env }
