-- A node without figures has nothing; at another, no sender breaks the rule.
use mathlib.Core.Path.{◌≡◌, sym, ◌∙◌}
use mathlib.Core.Bool.{true}
use Rattle.records.specs.Record.{node_of}
use Rattle.records.specs.Kinds.{is_receiver}
use Rattle.pairs.specs.Pairs.{Held}
use Rattle.pairs.proofs.Search.{nothing-found}
use Rattle.filter.specs.Sieve.{rule_in, setting_in}
use Rattle.filter.proofs.Laws.{given-in, receives-figures, sound-node}
use Rattle.filter.proofs.Sieve.node_passes.Goals as goal
use Rattle.filter.proofs.Sieve.node_passes.Goals.{After-node_at, Else-figures-eq0}

held : (c : After-node_at) → Held (setting_in c.args.self.now) record { number = c.args.i; node = c.node_at.result }
held c = record { below = c.requires.1; is = c.node_at.ensures }

pub returns-then-figures-eq0 : goal.returns-then-figures-eq0
returns-then-figures-eq0 c e =
    nothing-found (rule_in c.args.self.now) (given-in c.requires.0) (held (goal.at.returns-then-figures-eq0 c).After-node_at)
    (sym (rw c.number.ensures at c.figures.ensures) ∙ c.if-figures-eq0.true)

-- a node with figures receives
receiver : (c : Else-figures-eq0) → is_receiver (node_of c.node_at.result) ≡ true
receiver c =
    let s = c.args.self.now in
    receives-figures (rule_in s) s.w.now.balances _ (λ e. c.if-figures-eq0.false ((rw c.number.ensures at c.figures.ensures) ∙ e))

pub passes-requires : goal.passes-requires
passes-requires c = record {
  sieves = c.requires.0;
  receives = (held (goal.at.passes-requires c).After-node_at, receiver (goal.at.passes-requires c).Else-figures-eq0);
}

pub returns : goal.returns
returns c e =
    sound-node (rule_in c.args.self.now) (given-in c.requires.0) (held (goal.at.returns c).After-node_at)
    (receiver (goal.at.returns c).Else-figures-eq0) (c.passes.ensures e)
