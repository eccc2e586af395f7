-- `scopes::args_marked` meets its contract. The loop's invariant: `found` says whether the first k arguments are marked.
use Prim.Native.Nat.{ℕ}
use mathlib.Core.Path.{◌≡◌}
use mathlib.Core.Bool.{Bool, ◌||◌}
use mathlib.Core.List.{List}
use lib.Dec.{leb}
use lib.ListN.{get_or}
use Rattle.laws.specs.Search.{every}
use Rattle.records.specs.declared.Record.{Record}
use Rattle.marks.specs.Marks.{marked}
use Rattle.scopes.proofs.args_marked.Given as goal

-- argument n, where the record has one, is marked
abbrev pub arg_in : List ℕ → ℕ → Record → ℕ → Bool
arg_in reach i r n = leb r.arity n || marked reach i (get_or r.args n 0)

abbrev pub invariant-loop-k : goal.invariant-loop-k
invariant-loop-k l = l.found ≡ every l.k (arg_in l.reach l.i l.fn.r)
