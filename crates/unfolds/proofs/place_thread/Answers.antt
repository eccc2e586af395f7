-- Where there is room for thread k, its words are written at its place.
use native.Mathlib.Omega.{arith}
use Prim.Native.Nat.{◌+◌, ◌*◌, ◌≤◌}
use native.Mathlib.Nat.{mul-le-mul}
use native.Mathlib.Omega.{arith}
use lib.ListN.{length}
use borrow.Author.Rules.{rules}
use Rattle.unfolds.proofs.place_thread.Goals as goal
use Rattle.unfolds.proofs.place_thread.Goals.{Start}

-- thread k's place is small
place : (c : Start) → c.args.k * (2 + length c.args.env.now) ≤ 257 * 258
place c = mul-le-mul {n₁ = c.args.k} {m₁ = 2 + length c.args.env.now} {n₂ = 257} {m₂ = 258} c.requires.3 (omega arith)

pub overflow_mul-at : goal.overflow_mul-at
overflow_mul-at c = let h = place (goal.at.overflow_mul-at c).Start in search rules

pub overflow_add-at : goal.overflow_add-at
overflow_add-at c = let h = place (goal.at.overflow_add-at c).Start in search rules

pub returns-else-at-width : goal.returns-else-at-width
returns-else-at-width c = λ h. absurd (omega arith)
