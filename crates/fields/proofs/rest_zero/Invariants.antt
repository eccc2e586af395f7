-- The loop's flag says of the argument bytes passed that each of them is used or zero.
use Rattle.std.proofs.Common.{◌≡◌}
use Rattle.laws.specs.Search.{every}
use Rattle.fields.specs.Fields.{rest_zero}
use Rattle.fields.proofs.rest_zero.Given as goal

abbrev pub invariant-loop-k : goal.invariant-loop-k
invariant-loop-k l = l.zero ≡ every l.k (rest_zero l.fn.r)
