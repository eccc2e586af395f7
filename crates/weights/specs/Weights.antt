-- The two tests of refusal 20 at a balance, by marks of the agents.
use Rattle.std.specs.Prelude.{ℕ, ◌%◌, Bool, false, ◌||◌, List, length, get_or, eqb}
use Rattle.laws.specs.Search.{every}
use Rattle.layout.specs.Table.{weight_at}

-- only marked nodes have a weight
abbrev pub marked_fit : List Bool → List ℕ → ℕ → Bool
marked_fit agents s at = every (length agents) λ i. get_or agents i false || eqb (weight_at s at i) 0

-- the padding of so many nodes' weights, where there is any
abbrev pub padding_zero : ℕ → List ℕ → ℕ → Bool
padding_zero nodes s at = eqb (nodes % 2) 0 || eqb (weight_at s at nodes) 0
