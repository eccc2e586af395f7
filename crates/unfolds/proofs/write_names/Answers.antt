use Prim.Native.Nat.{ℕ}
use native.Mathlib.Omega.{arith}
use mathlib.Core.Path.{◌≡◌, ap, ◌∙◌}
use mathlib.Core.Bool.{cond}
use mathlib.Core.List.{List, []}
use lib.ListN.{get_or}
use lib.Seq.{take_all}
use Rattle.laws.specs.Lists.{put}
use Rattle.marks.specs.Marks.{marked}
use Rattle.model.specs.Calculus.{cut_from}
use Rattle.model.specs.Memory.{words}
use Rattle.unfolds.proofs.Laws.{names-none, names_more}
use Rattle.unfolds.proofs.write_names.Goals as goal
use Rattle.unfolds.proofs.write_names.Goals.{then-on, else-on}

pub loop-v-init : goal.loop-v-init
loop-v-init c =
    let x = c.args in
    names-none (marked x.frees.now x.i) x.env.now x.threads.now x.at

pub loop-v-preserved : goal.loop-v-preserved
loop-v-preserved c =
    let x = c.args in
    let l = c.loop-v in
    let word : c.if-on.threads ≡ cond (marked x.frees.now x.i l.v) (get_or x.env.now l.v 0) 0 =
    elim c.if-on.branch [
      | then-on w ↦ rw (← c.is_marked-on.ensures, w.if-on.true) w.threads-is
      | else-on w ↦ rw (← c.is_marked-on.ensures, w.if-on.false) w.threads-is
    ] in
    rw (l.invariant, word) (names_more (marked x.frees.now x.i) x.env.now x.threads.now x.at l.v (omega arith) (omega arith))

pub returns : goal.returns
returns c =
    let x = c.args in
    let l = c.loop-v in
    l.invariant
    ∙ ap (λ (e : List ℕ). put x.at (cut_from (words []) (marked x.frees.now x.i) 0 e) x.threads.now)
    (take_all l.v x.env.now (omega arith))
