use Rattle.std.proofs.Common.{◌≡◌, refl, ap, ◌∙◌, arith, rules}
use Rattle.wire.specs.Numbers.{word_sum}
use Rattle.wire.proofs.Laws.{word_sum-step}
use Rattle.wire.proofs.word_sum.Goals as goal

pub loop-i-init : goal.loop-i-init
unfolding word_sum
loop-i-init c = (search rules, refl)

pub loop-i-preserved : goal.loop-i-preserved
loop-i-preserved c = (search rules, cc (word_sum-step c.args.s.now c.loop-i.i))

pub returns : goal.returns
returns c =
    let e : c.loop-i.i ≡ c.args.words = omega arith in
    c.loop-i.invariant.1 ∙ ap (word_sum _) e
