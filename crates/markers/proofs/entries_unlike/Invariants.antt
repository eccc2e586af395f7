-- `markers::entries_unlike` meets its contract. The loop's invariant: the places of the first k entries are marked, and these are unlike.
use mathlib.Core.Path.{◌≡◌}
use mathlib.Core.Bool.{true}
use Rattle.laws.specs.Search.{every}
use Rattle.model.specs.Memory.{entries_in, unlike}
use Rattle.markers.specs.Markers.{Seen}
use Rattle.markers.proofs.entries_unlike.Given as goal

abbrev pub invariant-loop-k : goal.invariant-loop-k
invariant-loop-k l =
    Seen l.seen l.markers l.k × (every l.k (unlike (entries_in l.count l.markers)) ≡ true)
