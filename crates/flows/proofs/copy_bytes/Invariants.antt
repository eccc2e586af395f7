-- The loop's invariant: the first i bytes of the table are written.
use mathlib.Core.Path.{◌≡◌}
use lib.ListN.{take}
use Rattle.laws.specs.Lists.{put}
use Rattle.flows.proofs.copy_bytes.Given as goal

abbrev pub invariant-loop-i : goal.invariant-loop-i
invariant-loop-i l = l.output ≡ put 0 (take l.i l.table) l.initial.output
