-- The loop's invariant: the arguments passed are marked.
use Rattle.std.proofs.Common.{◌≡◌, ℕ, eqb, length, get_or}
use Rattle.laws.specs.Search.{any}
use Rattle.marks.specs.Marks.{marked}
use Rattle.scans.proofs.args_row.Given as goal

abbrev pub invariant-loop-arg : goal.invariant-loop-arg
invariant-loop-arg l = (length l.row ≡ 4) × ((v : ℕ) → marked l.row 0 v ≡ any l.arg-index (λ n. eqb v (get_or l.args n 0)))
