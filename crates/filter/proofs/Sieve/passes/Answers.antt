use mathlib.Core.Path.{◌≡◌}
use native.Mathlib.Omega.{arith}
use Rattle.senders.specs.Sets.{family}
use Rattle.filter.specs.Sieve.{rule_in, setting_in}
use Rattle.filter.proofs.Laws.{given-in, sets_more, sets-done}
use Rattle.filter.proofs.Sieve.passes.Goals as goal

pub loop-g-preserved : goal.loop-g-preserved
loop-g-preserved c =
    let s = c.args.self.now in
    sets_more (rule_in s) (setting_in s) (family s.sets.now) s.sets.now.links c.args.p _ c.loop-g.invariant (c.set_passes.ensures c.if-not-set_passes.false)

pub returns : goal.returns
returns c e =
    let s = c.args.self.now in
    let done : c.loop-g.g ≡ 12 = omega arith in
    sets-done (rule_in s) (setting_in s) (family s.sets.now) s.sets.now.links c.args.p (given-in c.requires.sieves) c.requires.sieves.gathered
    (rw done at c.loop-g.invariant)
