-- Refusal 20 by marks of the agents.
use Prim.Native.Nat.{ℕ, ◌≤◌, ◌<◌}
use mathlib.Core.Path.{◌≡◌, ap, ◌∙◌}
use mathlib.Core.Bool.{Bool, false, ◌&&◌, ◌||◌}
use mathlib.Core.List.{List}
use lib.Dec.{eqb}
use lib.ListN.{length, get_or, take}
use lib.Seq.{length-take-le, get_or-take}
use Rattle.laws.proofs.Search.{every-same}
use Rattle.model.specs.Tree.{Array, node_at, is_agent}
use Rattle.layout.specs.Table.{weight_at, weights_fit, padding_fits}
use Rattle.weights.specs.Weights.{marked_fit, padding_zero}

-- the tests by the marks of the array's nodes are the definition's
pub by-marks : (a : Array) (agents : List Bool) (s : List ℕ) (at : ℕ) → a.size ≤ length agents
    → ((i : ℕ) → i < a.size → get_or agents i false ≡ is_agent (node_at a i))
    → marked_fit (take a.size agents) s at && padding_zero (length (take a.size agents)) s at ≡ weights_fit a s at && padding_fits a s at
by-marks a agents s at room marks =
    rw (length-take-le a.size agents room) (ap (λ (b : Bool). b && padding_fits a s at) (every-same a.size _ _ (λ i h.
    ap (λ (b : Bool). b || eqb (weight_at s at i) 0) (get_or-take a.size agents i false h ∙ marks i h))))
