-- A row's 256 names are four words of 64.
use Rattle.std.proofs.Common.{◌≡◌, refl, arith}
use Rattle.laws.specs.Search.{every}
use Rattle.laws.proofs.Search.{every-step}
use Rattle.marks.specs.Marks.{word_inside}
use Rattle.marks.proofs.Laws.{inside-words}
use Rattle.marks.proofs.contained.Goals as goal

pub loop-w-init : goal.loop-w-init
unfolding every
loop-w-init c = refl

pub loop-w-preserved : goal.loop-w-preserved
loop-w-preserved c = let x = c.args in cc (every-step (word_inside x.one.now x.u x.other.now x.v) c.loop-w.w)

pub returns : goal.returns
returns c =
    let x = c.args in
    let e : c.loop-w.w ≡ 4 = omega arith in
    cc (inside-words x.one.now x.u x.other.now x.v)
