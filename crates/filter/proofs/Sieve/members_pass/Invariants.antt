-- The senders of the set from the next one on break nothing; each link leads down, or the search ends. The margins are those of p.
use Rattle.pairs.specs.Pairs.{DifferencesOf}
use Rattle.filter.specs.Sieve.{rule_in, setting_in}
use Rattle.filter.proofs.Members.{AtMember}
use Rattle.filter.proofs.Sieve.members_pass.Given as goal

abbrev pub invariant-loop-next : goal.invariant-loop-next
invariant-loop-next l =
    let s = l.self in
    AtMember (rule_in s) (setting_in s) l.p l.g s.sets.now.links l.end l.next
    × DifferencesOf (setting_in s) l.p l.margins.gives l.margins.rooms

abbrev pub decreases-loop-next : goal.decreases-loop-next
decreases-loop-next l = l.end
