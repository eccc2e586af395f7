-- The kinds by name: tests of the node that a record stands for. Code asks for a kind by these alone.
use Rattle.std.specs.Prelude.{Bool, true, false}
use Rattle.model.specs.Tree.{Node, stop, new, par, choice, agent, receives}

unfoldable pub is_stop : Node → Bool
is_stop stop = true
is_stop (new n l) = false
is_stop (par l r) = false
is_stop (choice l r) = false
is_stop (agent s x ys l) = false

unfoldable pub is_new_node : Node → Bool
is_new_node stop = false
is_new_node (new n l) = true
is_new_node (par l r) = false
is_new_node (choice l r) = false
is_new_node (agent s x ys l) = false

unfoldable pub is_par : Node → Bool
is_par stop = false
is_par (new n l) = false
is_par (par l r) = true
is_par (choice l r) = false
is_par (agent s x ys l) = false

unfoldable pub is_choice : Node → Bool
is_choice stop = false
is_choice (new n l) = false
is_choice (par l r) = false
is_choice (choice l r) = true
is_choice (agent s x ys l) = false

-- in and resource
unfoldable pub is_receiver : Node → Bool
is_receiver stop = false
is_receiver (new n l) = false
is_receiver (par l r) = false
is_receiver (choice l r) = false
is_receiver (agent s x ys l) = receives s
