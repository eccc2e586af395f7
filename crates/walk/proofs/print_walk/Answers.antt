-- Each step that is told leaves one step less: the promise of `stride`.
use mathlib.Core.Path.{ap, ◌∙◌}
use Rattle.std.specs.Prelude.{Ok}
use Rattle.handover.proofs.Calls.{stride-less}
use Rattle.walk.proofs.print_walk.Goals as goal

pub loop-told-smaller : goal.loop-told-smaller
loop-told-smaller g c = stride-less _ _ _ _ _ _ _ c.stride.ensures c.in-Made.turn (c.in_ok-told.was ∙ ap Ok c.in-Made.is)
