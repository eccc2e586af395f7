-- What the counting tables hold: how a table grows, and how large its entries are.
use Rattle.std.specs.Prelude.{ℕ, ◌+◌, ◌<◌, ◌≡◌, cond, List, [], length, get_or}
use Rattle.records.specs.Record.{args_of, node_of}
use Rattle.records.specs.Kinds.{is_receiver}
use Rattle.records.specs.declared.Record.{Record}

-- each entry v of table t is more by f v in table u
abbrev pub Grown : List ℕ → List ℕ → (ℕ → ℕ) → Type 0
Grown t u f = (v : ℕ) → v < length t → get_or u v 0 ≡ get_or t v 0 + f v

-- each entry of a table is below b
abbrev pub Below : List ℕ → ℕ → Type 0
Below t b = (v : ℕ) → get_or t v 0 < b

-- the parameters that a record binds
abbrev pub params_of : Record → List ℕ
params_of r = cond (is_receiver (node_of r)) (args_of r) []
