-- The loop's flag says that the arguments passed are inside.
use mathlib.Core.Path.{◌≡◌}
use Rattle.laws.specs.Search.{every}
use Rattle.filter.specs.Filter.{arg_inside}
use Rattle.filter.proofs.args_inside.Given as goal

abbrev pub invariant-loop-m : goal.invariant-loop-m
invariant-loop-m l = l.inside ≡ every l.m (arg_inside l.unions l.rows l.g l.args)
