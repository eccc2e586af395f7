-- The loop's invariant: counted are the bits of the first i words that the table's words have not, at most 64 a word.
use Prim.Native.Nat.{◌*◌, ◌≤◌}
use mathlib.Core.Path.{◌≡◌}
use Rattle.laws.specs.Search.{sum}
use Rattle.flows.proofs.Counted.{fresh}
use Rattle.flows.proofs.new_bits.Given as goal

abbrev pub invariant-loop-i : goal.invariant-loop-i
invariant-loop-i l = (l.count ≤ 64 * l.i) × (l.count ≡ sum l.i (fresh l.table l.rows))
