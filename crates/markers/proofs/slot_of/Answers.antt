-- `markers::slot_of` meets its contract: what it computes is the definition, of numbers that are as they were when they are wider.
use native.Mathlib.Omega.{arith}
use Rattle.markers.specs.Markers.{slot_of}
use Rattle.markers.proofs.slot_of.Goals as goal

pub returns : goal.returns
unfolding slot_of
returns c = (rw (c.from-resource.ensures, c.from-out.ensures, c.from-left.ensures, c.from-right.ensures), omega arith)
