-- `scopes::uses_marked` meets its contract: by the branches, the record uses nothing, a channel and its arguments, or a channel.
use mathlib.Core.Path.{◌≡◌, sym, ap₂, ◌∙◌}
use mathlib.Core.Bool.{◌&&◌, and-true}
use mathlib.Core.List.{[], ◌∷◌}
use Rattle.laws.specs.Lists.{all}
use Rattle.model.specs.Formed.{uses}
use Rattle.records.specs.Record.{args_of, node_of}
use Rattle.scopes.proofs.Laws.{uses-of}
use Rattle.scopes.proofs.uses_marked.Goals as goal

pub returns-then-not-is_agent : goal.returns-then-not-is_agent
unfolding all
returns-then-not-is_agent c =
    let x = c.args in
    let e : uses (node_of x.r) ≡ [] = uses-of x.r ∙ rw (sym c.is_agent.ensures ∙ c.if-not-is_agent.true) in
    rw e

pub returns-then-sends : goal.returns-then-sends
unfolding all
returns-then-sends c =
    let x = c.args in
    let agent = sym c.is_agent.ensures ∙ c.if-not-is_agent.false in
    let out = sym c.sends.ensures ∙ c.if-sends.true in
    let e : uses (node_of x.r) ≡ x.r.name ∷ args_of x.r = uses-of x.r ∙ rw (agent, out) in
    rw e (ap₂ ◌&&◌ c.is_marked.ensures c.args_marked-args.ensures)

pub returns : goal.returns
unfolding all
returns c =
    let x = c.args in
    let agent = sym c.is_agent.ensures ∙ c.if-not-is_agent.false in
    let other = sym c.sends.ensures ∙ c.if-sends.false in
    let e : uses (node_of x.r) ≡ x.r.name ∷ [] = uses-of x.r ∙ rw (agent, other) in
    rw e (c.is_marked-2.ensures ∙ sym (and-true _))
