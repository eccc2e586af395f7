-- The sets passed so far have no sender that breaks the rule with p, whichever sets the lists stand for.
use Rattle.senders.specs.Sets.{family}
use Rattle.filter.specs.Sieve.{rule_in, setting_in}
use Rattle.filter.proofs.Laws.{SetsSound}
use Rattle.filter.proofs.Sieve.passes.Given as goal

abbrev pub invariant-loop-g : goal.invariant-loop-g
invariant-loop-g l =
    let s = l.self in
    SetsSound (rule_in s) (setting_in s) (family s.sets.now) s.sets.now.links l.p l.g
