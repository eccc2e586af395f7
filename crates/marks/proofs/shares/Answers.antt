-- A row's 256 names are four words of 64.
use Rattle.std.proofs.Common.{◌≡◌, refl, arith}
use Rattle.laws.specs.Search.{any}
use Rattle.laws.proofs.Search.{any_step}
use Rattle.marks.specs.Marks.{words_share}
use Rattle.marks.proofs.Laws.{share-words}
use Rattle.marks.proofs.shares.Goals as goal

pub loop-w-init : goal.loop-w-init
unfolding any
loop-w-init c = refl

pub loop-w-preserved : goal.loop-w-preserved
loop-w-preserved c = let x = c.args in cc (any_step (words_share x.one.now x.u x.other.now x.v) c.loop-w.w)

pub returns : goal.returns
returns c =
    let x = c.args in
    let e : c.loop-w.w ≡ 4 = omega arith in
    cc (share-words x.one.now x.u x.other.now x.v)
