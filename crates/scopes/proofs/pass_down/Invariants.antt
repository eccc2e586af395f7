-- `scopes::pass_down` meets its contract. The loop's invariant: the table is the one passed in with the first w words written.
use mathlib.Core.Path.{◌≡◌}
use Rattle.scopes.specs.Scope.{passed}
use Rattle.scopes.proofs.pass_down.Given as goal

abbrev pub invariant-loop-w : goal.invariant-loop-w
invariant-loop-w l = l.reach ≡ passed l.initial.reach l.from l.to l.bound l.w
