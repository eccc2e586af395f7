-- Each step that is told leaves one step less.
use Rattle.walk.proofs.print_walk.Given as goal

abbrev pub decreases-loop-told : goal.decreases-loop-told
decreases-loop-told g l = l.allowance.left
