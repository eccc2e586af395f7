-- `threads::move_down` meets its contract: a thread that moves, and one that is in place.
use native.Mathlib.Omega.{arith}
use mathlib.Core.Path.{◌≡◌, refl, sym, ap, ◌∙◌}
use Prim.Native.Nat.{ℕ}
use lib.ListN.{take, drop}
use Rattle.laws.specs.Lists.{put}
use Rattle.laws.proofs.Put.{put_same}
use Rattle.threads.proofs.Moves.{moved}
use Rattle.threads.proofs.move_down.Goals as goal

pub returns-then-to-from : goal.returns-then-to-from
returns-then-to-from c =
    let x = c.args in
    c.copy_within.ensures.after ∙ moved x.threads.now x.from x.to x.width _ refl c.requires.1

pub returns-else-to-from : goal.returns-else-to-from
returns-else-to-from c =
    let x = c.args in
    let l = x.threads.now in
    let e : x.to ≡ x.from = omega arith in
    sym (ap (λ (k : ℕ). put k (take x.width (drop x.from l)) l) e ∙ put_same x.from x.width l c.requires.1)
