-- The two lists as lent, with how many threads and markers are in use.
use Rattle.std.specs.Prelude.{ℕ, List}
use Rattle.model.specs.Memory.{Memory, memory}
use Rattle.lent.specs.declared.Counts.{Counts}

-- what the lists and their counts are in the model
abbrev pub lent_of : List ℕ → List ℕ → Counts → Memory
lent_of l ml n = memory l n.threads ml n.markers
