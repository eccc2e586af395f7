-- What the pass promises, and what it needs and does at one node.
use Rattle.std.specs.Prelude.{ℕ, ◌*◌, ◌≤◌, ◌<◌, ◌≡◌, Bool, true, ◌&&◌, ◌||◌, List, eqb, leb, ltb, length, get_or}
use Rattle.laws.specs.Search.{clear}
use Rattle.laws.specs.Lists.{all, times}
use Rattle.marks.specs.Marks.{marked}
use Rattle.model.specs.Formed.{children, binds, uses, refusal8, refusal9, refusal10, refusal11, refusal12}
use Rattle.records.specs.declared.Record.{Record}
use Rattle.records.specs.declared.Trailer.{Trailer}
use Rattle.records.specs.Record.{node_of, array_of}
use Rattle.fields.specs.Fields.{shape_fits, fields_zero, unused_zero, children_fit, refusal6, refusal7}
use Rattle.counts.specs.Counts.{Grown, Below}
use Rattle.scopes.specs.Scope.{HandedDown}

-- none of the refusals 6 to 12 comes
pub record Clear (s : List ℕ) (t : Trailer) : Type 0 where
  pub shapes : refusal6 s t ≡ clear
  pub unused : refusal7 s t ≡ clear
  pub children : refusal8 (array_of s t) ≡ clear
  pub parents : refusal9 (array_of s t) ≡ clear
  pub named : refusal10 (array_of s t) ≡ clear
  pub bound : refusal11 (array_of s t) ≡ clear
  pub scoped : refusal12 (array_of s t) ≡ clear

-- ---- the tests

-- 6, 7 and 8 at node i of m, but for the argument bytes
abbrev pub record_fits : ℕ → ℕ → Record → Bool
record_fits m i r = shape_fits r && fields_zero r && children_fit m i r

-- name v is counted once where it is below n, and else never
abbrev pub count_fits : List ℕ → ℕ → ℕ → Bool
count_fits binders n v = (leb n v || eqb (get_or binders v 0) 1) && (ltb v n || eqb (get_or binders v 0) 0)

-- ---- one node

-- the tables have room for node i of m and its children
pub record Ready (m i : ℕ) (reach parents binders : List ℕ) : Type 0 where
  pub here : i < m
  pub rows : 4 * m ≤ length reach
  pub nodes : m ≤ length parents
  pub names : length binders ≡ 256
  pub few_names : Below binders 60000

-- node i of m, whose record is r, passes 6, 7 and 8, and uses names of its row; its children have its names, and its fields and names are counted
pub record Passed (m i : ℕ) (r : Record) (reach parents binders reach' parents' binders' : List ℕ) : Type 0 where
  pub shape : shape_fits r ≡ true
  pub zeros : unused_zero r ≡ true
  pub above : children_fit m i r ≡ true
  pub used : all (marked reach i) (uses (node_of r)) ≡ true
  pub down : HandedDown reach reach' i (node_of r)
  pub fields : Grown parents parents' (times (children (node_of r)))
  pub bound : Grown binders binders' (times (binds (node_of r)))
