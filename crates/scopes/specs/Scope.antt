-- What the table of reaching names holds: a row of marks for each node.
use Rattle.std.specs.Prelude.{ℕ, zero, suc, ◌<◌, ◌≡◌, Bool, true, false, cond, ◌&&◌, ◌||◌, List, get_or, set}
use Rattle.std.specs.Int.Bits.{bit_or}
use Rattle.laws.specs.Lists.{has}
use Rattle.marks.specs.Marks.{word_at, marked}
use Rattle.model.specs.Tree.{Node}
use Rattle.model.specs.Formed.{children, binds}
use Rattle.records.specs.declared.Record.{Record}
use Rattle.records.specs.Record.{args_of, node_of}
use Rattle.records.specs.Kinds.{is_receiver}

-- name v is a parameter of a record
abbrev pub is_param : Record → ℕ → Bool
is_param r v = is_receiver (node_of r) && has (args_of r) v

-- the first n words of row `to` hold those of row `from` and of `bound`
unfoldable pub passed : List ℕ → ℕ → ℕ → List ℕ → ℕ → List ℕ
passed reach from to bound zero = reach
passed reach from to bound (suc n) =
    let before = passed reach from to bound n in
    set before (word_at to n) (bit_or (get_or before (word_at from n) 0) (get_or bound n 0))

-- the same of all four words where the test is true
unfoldable pub pass_if : List ℕ → Bool → ℕ → ℕ → List ℕ → List ℕ
pass_if reach true from to bound = passed reach from to bound 4
pass_if reach false from to bound = reach

-- a child of node j has the marks of node j and of what it binds; every other row is as it was
pub record HandedDown (before after : List ℕ) (j : ℕ) (n : Node) : Type 0 where
  pub rows : (i v : ℕ) → v < 256 → marked after i v
      ≡ cond (has (children n) i) (marked before j v || has (binds n) v) (marked before i v)
