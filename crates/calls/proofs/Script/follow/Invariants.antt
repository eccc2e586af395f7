-- Every command moves on.
use Rattle.std.proofs.Common.{length}
use Rattle.calls.proofs.Script.follow.Given as goal

abbrev pub decreases-loop-rest : goal.decreases-loop-rest
decreases-loop-rest g l = length l.rest
