-- Node by node, as code finds them from the last node to the first: the load, the free names and the agent of a node from
-- its children's. proofs/Nodes shows that they are those of the process tree.
use Rattle.std.specs.Prelude.{ℕ, ◌+◌, max, Bool, false, not, ◌&&◌, ◌||◌, eqb}
use Rattle.std.proofs.Math.Option.{Option, none, some}
use Rattle.laws.specs.Lists.{has}
use Rattle.model.specs.Tree.{Node, stop, new, par, choice, agent, Proc, Agent, free_below}

unfoldable pub load_of : (ℕ → ℕ) → ℕ → (ℕ → ℕ) → Node → ℕ
load_of w i f stop = 0
load_of w i f (new n l) = f l
load_of w i f (par l r) = f l + f r
load_of w i f (choice l r) = max (f l) (f r)
load_of w i f (agent s x ys l) = w i

unfoldable pub free_of : (ℕ → Bool) → Node → ℕ → Bool
free_of f stop v = false
free_of f (new n l) v = not (eqb v n) && f l
free_of f (par l r) v = f l || f r
free_of f (choice l r) v = f l || f r
free_of f (agent s x ys l) v = eqb v x || free_below s (has ys v) (f l)

unfoldable pub agent_of : (ℕ → Proc) → Node → Option Agent
agent_of f stop = none
agent_of f (new n l) = none
agent_of f (par l r) = none
agent_of f (choice l r) = none
agent_of f (agent s x ys l) = some record { sort = s; channel = x; args = ys; body = f l }
