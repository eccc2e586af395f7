-- The nodes below i are marked.
use Prim.Native.Nat.{ℕ, ◌<◌}
use mathlib.Core.Path.{◌≡◌}
use mathlib.Core.Bool.{false}
use lib.ListN.{length, get_or}
use Rattle.model.specs.Tree.{node_at, is_agent}
use Rattle.records.specs.ArrayFile.{array_in}
use Rattle.weights.proofs.mark_agents.Given as goal

abbrev pub invariant-loop-i : goal.invariant-loop-i
invariant-loop-i l = (length l.agents ≡ 1024) × ((j : ℕ) → j < l.i → get_or l.agents j false ≡ is_agent (node_at (array_in l.array) j))
