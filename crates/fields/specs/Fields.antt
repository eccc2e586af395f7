-- Refusals 6, 7, 8 and 10 (01, "Refusals, in checking order").
use Rattle.std.specs.Prelude.{ℕ, Bool, not, ◌&&◌, ◌||◌, List, ◌++◌, eqb, ltb, leb, get_or}
use Rattle.laws.specs.Search.{Found, first, every}
use Rattle.laws.specs.Lists.{all}
use Rattle.model.specs.Formed.{Refusal, refuse, child_fits, children, uses, binds}
use Rattle.records.specs.declared.Record.{Record}
use Rattle.records.specs.declared.Trailer.{Trailer}
use Rattle.records.specs.Record.{kind_number, node_of, record_of}

-- ---- refusals of one record

-- "6. A kind is above 6, an arity is above 8, or kinds 0 to 3 have an arity (place: node)."
abbrev pub shape_fits : Record → Bool
shape_fits r = leb (kind_number r.kind) 6 && leb r.arity 8 && (leb 4 (kind_number r.kind) || eqb r.arity 0)

-- argument byte k is zero, or the arity says that it is used
abbrev pub rest_zero : Record → ℕ → Bool
rest_zero r k = ltb k r.arity || eqb (get_or r.args k 0) 0

-- every kind but stop uses its left child; par and choice their right child; a new and the agents their name
abbrev pub fields_zero : Record → Bool
fields_zero r =
    eqb r.pad 0
    && (not (eqb (kind_number r.kind) 0) || eqb r.left 0)
    && (eqb (kind_number r.kind) 2 || eqb (kind_number r.kind) 3 || eqb r.right 0)
    && (eqb (kind_number r.kind) 1 || leb 4 (kind_number r.kind) || eqb r.name 0)

-- "7. An unused field isn't zero (node)." Agents use as many arguments as their arity says.
abbrev pub unused_zero : Record → Bool
unused_zero r = fields_zero r && every 8 (rest_zero r)

-- 8 and 10 at one node, as the model has them
unfoldable pub children_fit : ℕ → ℕ → Record → Bool
children_fit m i r = all (child_fits m i) (children (node_of r))

unfoldable pub names_fit : ℕ → Record → Bool
names_fit n r = all (λ v. ltb v n) (uses (node_of r) ++ binds (node_of r))

-- for 10, by positions: argument byte k is a name below n, or the arity says that it is not used
abbrev pub arg_below : ℕ → Record → ℕ → Bool
arg_below n r k = leb r.arity k || ltb (get_or r.args k 0) n

-- "6." and "7." over the whole array; 8 to 12 are the model's
unfoldable pub refusal6 : List ℕ → Trailer → Found Refusal
refusal6 s t = first t.nodes λ i. refuse 6 i (shape_fits (record_of s t i))

unfoldable pub refusal7 : List ℕ → Trailer → Found Refusal
refusal7 s t = first t.nodes λ i. refuse 7 i (unused_zero (record_of s t i))
