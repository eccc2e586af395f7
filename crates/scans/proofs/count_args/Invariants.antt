-- The loop's invariant: the arguments passed are counted.
use Rattle.std.proofs.Common.{ℕ, List, eqb, get_or}
use Rattle.laws.specs.Lists.{one}
use Rattle.counts.proofs.Laws.{Counted}
use Rattle.scans.proofs.count_args.Given as goal

-- what argument k adds to entry v
abbrev pub adds : List ℕ → ℕ → ℕ → ℕ
adds args k v = one (eqb v (get_or args k 0))

abbrev pub invariant-loop-arg : goal.invariant-loop-arg
invariant-loop-arg l = Counted l.initial.binders l.binders (adds l.args) l.arg-index
