-- `threads::bind_params` meets its contract. The loop's invariant: the parameters from k on are bound.
use mathlib.Core.Path.{◌≡◌}
use Rattle.threads.proofs.Laws.{bound_from}
use Rattle.threads.proofs.bind_params.Given as goal

abbrev pub invariant-loop-k : goal.invariant-loop-k
invariant-loop-k l = l.env ≡ bound_from l.k l.initial.k l.p.args l.q.args l.sent l.initial.env
