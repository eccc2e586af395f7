-- `scopes::pass_if` meets its contract: by the branch it is `pass_down`, or nothing.
use Rattle.scopes.specs.Scope.{pass_if}
use Rattle.scopes.proofs.pass_if.Goals as goal

pub pass_down-requires : goal.pass_down-requires
pass_down-requires c = c.requires c.if-on.true

pub returns-then-on : goal.returns-then-on
unfolding pass_if
returns-then-on c = rw c.if-on.true c.pass_down.ensures

pub returns-else-on : goal.returns-else-on
unfolding pass_if
returns-else-on c = rw c.if-on.false
