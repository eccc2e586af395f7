-- The loop's flag says of the argument bytes passed that each of them is unused or a name below n.
use Rattle.std.proofs.Common.{◌≡◌}
use Rattle.laws.specs.Search.{every}
use Rattle.fields.specs.Fields.{arg_below}
use Rattle.fields.proofs.args_below.Given as goal

abbrev pub invariant-loop-k : goal.invariant-loop-k
invariant-loop-k l = l.below ≡ every l.k (arg_below l.n l.fn.r)
