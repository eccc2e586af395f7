-- The rows of the parameters passed contain what is sent.
use Rattle.mending.proofs.Growth.{TakenTo}
use Rattle.mending.proofs.add_args.Given as goal

abbrev pub invariant-loop-n : goal.invariant-loop-n
invariant-loop-n l =
    TakenTo l.p.arity l.p.args l.sent l.initial.so_far.rows l.initial.so_far.names l.n l.so_far.rows l.so_far.names
