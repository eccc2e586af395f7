-- `markers::add_entry` meets its contract: a part of four words is written at once.
use native.Mathlib.Omega.{arith}
use Prim.Native.Nat.{◌*◌}
use Rattle.markers.proofs.Laws.{put-part}
use Rattle.markers.proofs.add_entry.Goals as goal

pub returns : goal.returns
returns c = let x = c.args in put-part (4 * x.count) _ x.markers.now (omega arith) c.copy_from_slice.ensures.after
