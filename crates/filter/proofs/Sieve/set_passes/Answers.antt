-- The three ways in which a set passes, each by its law.
use mathlib.Core.Path.{sym, ◌∙◌}
use Rattle.laws.proofs.Search.{and_split}
use native.Mathlib.Omega.{arith}
use borrow.Author.Rules.{rules}
use Rattle.arrays.proofs.Agents.{small-arity, left_below}
use Rattle.pairs.proofs.Laws.{agent-p, name-row, arg-row}
use Rattle.pairs.proofs.ByDifference.{light}
use Rattle.senders.specs.Sets.{family}
use Rattle.filter.specs.Sieve.{rule_in}
use Rattle.filter.proofs.Laws.{given-in, far-set, whole_set}
use Rattle.filter.proofs.Sieve.set_passes.Goals as goal

pub may_come-requires : goal.may_come-requires
may_come-requires c =
    let few = c.requires.sieves.1 in
    let g = given-in c.requires.sieves.0 in
    let p = c.requires.receives in
    (few, small-arity g.read p.0, search rules, search rules, name-row g p.0 (agent-p g p.0 p.1 p.0))

pub returns-then-not-may_come : goal.returns-then-not-may_come
returns-then-not-may_come c e sets all links q hq sends of =
    let s = c.args.self.now in
    let p = c.requires.receives in
    far-set (rule_in s) (given-in c.requires.sieves.0) p.0 p.1 (family s.sets.now) c.args.g q hq (and_split _ _ sends).0
    (rw of at (all.covers q hq sends hq.below))
    (sym c.may_come.ensures ∙ c.if-not-may_come.true)

pub figures_pass-requires : goal.figures_pass-requires
figures_pass-requires c =
    let few = c.requires.sieves.1 in
    let room = c.requires.sieves.0.gathered.collected.room in
    let g = given-in c.requires.sieves.0 in
    let p = c.requires.receives in
    let agent = agent-p g p.0 p.1 p.0 in
    let balances = g.lists.few in (
      few,
      record { few = small-arity g.read p.0; args = arg-row g p.0 agent },
      λ k h.
          let left = left_below g.read p.0 agent in (
            omega (arith, few, room.needs, balances, h),
            room.half _ k,
            (g.weighed.half _ left k h).0,
            g.weighed.small _ k left h,
            (g.weighed.half _ p.0.below k h).0,
            light g p.0 agent k h,
          ),
    )

pub returns-then-figures_pass : goal.returns-then-figures_pass
returns-then-figures_pass c e sets all links q hq sends of =
    let s = c.args.self.now in
    let p = c.requires.receives in
    whole_set (rule_in s) (given-in c.requires.sieves.0) p.0 p.1 (family s.sets.now) c.args.g q hq (and_split _ _ sends).0
    (rw of at (all.covers q hq sends hq.below))
    (sym c.figures_pass.ensures ∙ c.if-figures_pass.true)

pub returns-then-self : goal.returns-then-self
returns-then-self c e sets all links = c.members_pass.ensures e sets links
