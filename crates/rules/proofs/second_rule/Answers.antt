use Rattle.std.proofs.lemmas.Bool.{lt-leb, le-leb}
use mathlib.Core.Path.{sym}
use Rattle.laws.proofs.Search.{first-zero}
use Rattle.rules.proofs.Laws.{rule-passes, rule-stops}
use Rattle.rules.proofs.second_rule.Goals as goal

pub loop-k-init : goal.loop-k-init
loop-k-init c = first-zero _

pub load_at-requires : goal.load_at-requires
load_at-requires c =
    let g = c.args.w.now.is_weighed in
    g.weighed.half 0 g.read.formed.some c.loop-k.k c.loop-k-test.true

pub returns-then-w-k : goal.returns-then-w-k
returns-then-w-k c =
    let l = c.loop-k in
    sym (rule-stops 2 _ l.k l.invariant _ c.loop-k-test.true (lt-leb _ _ (rw c.load_at.ensures.0 at c.if-w-k.true)))

pub loop-k-preserved : goal.loop-k-preserved
loop-k-preserved c =
    rule-passes 2 _ c.loop-k.k c.loop-k.invariant (le-leb _ _ (rw c.load_at.ensures.0 at c.if-w-k.false))
