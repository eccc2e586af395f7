-- The loop's invariant: no number below i is refused.
use Rattle.std.proofs.Common.{◌≡◌, ℕ, Bool}
use Rattle.laws.specs.Search.{first, clear}
use Rattle.model.specs.Formed.{refuse}
use Rattle.records.specs.Record.{number_of}
use Rattle.records.specs.FirstFailing.{Tells}
use Rattle.records.proofs.first_failing.Given as goal

abbrev pub invariant-loop-i : goal.invariant-loop-i
invariant-loop-i g l =
    (p : ℕ → Bool) → Tells (goal.F-post g l.passes) l.n (number_of l.reason) p → first l.i (λ j. refuse (number_of l.reason) j (p j)) ≡ clear
