-- What the list of free names holds: a row of marks for each node.
use Rattle.std.specs.Prelude.{ℕ, ◌≤◌, ◌<◌, ◌≡◌, ◌≢◌, Bool, true, false, ◌||◌, List}
use Rattle.laws.specs.Lists.{has}
use Rattle.marks.specs.Marks.{HasRow, marked}
use Rattle.model.specs.Tree.{Array, Node, stop, new, par, choice, agent, proc_at, is_free}
use Rattle.model.specs.Nodes.{free_of}
use Rattle.model.specs.Formed.{children}

-- a test passes at some child
unfoldable pub at_child : (ℕ → Bool) → Node → Bool
at_child f stop = false
at_child f (new n l) = f l
at_child f (par l r) = f l || f r
at_child f (choice l r) = f l || f r
at_child f (agent s x ys l) = f l

-- the rows of a node's children are in the list, above row i
abbrev pub RowsAbove : List ℕ → ℕ → Node → Type 0
RowsAbove frees i n = (c : ℕ) → has (children n) c ≡ true → (i < c) × HasRow frees c

-- row i has the free names of its node by its children's rows; every other row is as it was
pub record RowFilled (before after : List ℕ) (i : ℕ) (n : Node) : Type 0 where
  pub row : (v : ℕ) → v < 256 → marked after i v ≡ free_of (λ c. marked before c v) n v
  pub rest : (j v : ℕ) → j ≢ i → v < 256 → marked after j v ≡ marked before j v

-- from node n on
abbrev pub FreeFrom : List ℕ → Array → ℕ → Type 0
FreeFrom frees a n = (i v : ℕ) → n ≤ i → i < a.size → v < 256 → marked frees i v ≡ is_free (proc_at a i) v

-- every entry: name v is marked in row i exactly where it is free in node i
abbrev pub AllFree : List ℕ → Array → Type 0
AllFree frees a = (i v : ℕ) → i < a.size → v < 256 → marked frees i v ≡ is_free (proc_at a i) v
