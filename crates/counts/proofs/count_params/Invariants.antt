-- The loop's invariant: the table has counted the parameters among the first k argument bytes.
use Rattle.counts.proofs.Laws.{Counted, param_at}
use Rattle.counts.proofs.count_params.Given as goal

abbrev pub invariant-loop-k : goal.invariant-loop-k
invariant-loop-k l = Counted l.initial.table l.table (param_at l.fn.r) l.k
