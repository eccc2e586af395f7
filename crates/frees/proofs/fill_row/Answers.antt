use Prim.Native.Nat.{◌<◌}
use native.Mathlib.Omega.{arith}
use mathlib.Core.Path.{◌≡◌, refl, ap, ◌∙◌}
use lib.ListN.{length, length-set}
use Rattle.marks.specs.Marks.{word_at}
use Rattle.records.specs.Record.{node_of}
use Rattle.frees.proofs.Laws.{else-set, row-set, row-filled}
use Rattle.frees.proofs.fill_row.Goals as goal

pub loop-w-init : goal.loop-w-init
loop-w-init c = (refl, λ j k ne h. refl, λ v h. absurd (omega arith))

pub below-inside-requires : goal.below-inside-requires
below-inside-requires c =
    let e = c.loop-w.invariant.0 in
    (omega arith, λ n h. let f = c.requires.2 n h in omega (arith, f.1))

pub loop-w-preserved : goal.loop-w-preserved
loop-w-preserved c =
    let x = c.args in
    let l = c.loop-w in
    let few : l.w < 4 = omega arith in
    let fits : word_at x.i l.w < length l.frees = omega arith in
    let e = c.set_word.ensures in (
      ap length e ∙ length-set l.frees _ _ ∙ l.invariant.0,
      rw e (else-set x.frees.now l.frees x.i l.w few l.invariant.1 _),
      rw e
          (row-set x.frees.now l.frees x.i l.w few l.invariant.1 fits (node_of x.r) (λ n h. (c.requires.2 n h).0) c.used_by-used.result c.bound_by-bound.result
          c.used_by-used.ensures c.bound_by-bound.ensures c.below-inside.result c.below-inside.ensures l.invariant.2),
    )

pub returns : goal.returns
returns c =
    let x = c.args in
    let l = c.loop-w in
    let e : l.w ≡ 4 = omega arith in
    row-filled x.frees.now l.frees x.i (node_of x.r) l.invariant.1 (rw e at l.invariant.2)
