-- `scopes::mark_args` meets its contract. The loop's invariant: the row has the marks it came with and, where `on` is true, those of the first k arguments.
use Prim.Native.Nat.{ℕ, ◌<◌}
use mathlib.Core.Path.{◌≡◌}
use mathlib.Core.Bool.{◌||◌}
use lib.ListN.{length}
use Rattle.laws.specs.Search.{any}
use Rattle.marks.specs.Marks.{marked}
use Rattle.scopes.proofs.Laws.{arg_at}
use Rattle.scopes.proofs.mark_args.Given as goal

abbrev pub invariant-loop-k : goal.invariant-loop-k
invariant-loop-k l =
    (length l.row ≡ 4) × ((v : ℕ) → v < 256 → marked l.row 0 v ≡ marked l.initial.row 0 v || any l.k (arg_at l.fn.r l.on v))
