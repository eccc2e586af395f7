-- The receivers passed so far got nothing that rows which meet rule 3 can do without.
use Rattle.mending.specs.Beside.{GrewBeside}
use Rattle.mending.proofs.spread.Given as goal

abbrev pub invariant-loop-i : goal.invariant-loop-i
invariant-loop-i l = GrewBeside l.w l.initial.so_far l.so_far
