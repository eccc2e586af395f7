-- The loop's invariant: every claim passed holds alone.
use Prim.Native.Nat.{ℕ, ◌<◌}
use mathlib.Core.Path.{◌≡◌}
use mathlib.Core.Bool.{true}
use Rattle.layout.specs.TableFile.{table_in}
use Rattle.rules.specs.Ruling.{claim_holds}
use Rattle.rules.proofs.fifth_rule.Given as goal

abbrev pub invariant-loop-c : goal.invariant-loop-c
invariant-loop-c l = (e : ℕ) → e < l.c → claim_holds l.w.loads.now l.w.bounds.now ((table_in l.table).claim e) ≡ true
