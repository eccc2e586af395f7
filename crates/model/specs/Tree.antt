-- The array, and the process tree below each of its nodes (01, "The array file").
use Rattle.std.specs.Prelude.{ℕ, zero, suc, ◌+◌, max, Bool, true, false, cond, not, ◌&&◌, ◌||◌, List, eqb, ltb}
use Rattle.std.proofs.Math.Option.{Option, none, some}
use Rattle.laws.specs.Search.{any}
use Rattle.laws.specs.Lists.{has}

-- ---- the array

-- "Kinds 4 to 6 are agents": out, in and resource (01's word for a replicated in)
pub data Sort : Type 0 where
  out inp resource : Sort

-- a node, with the numbers of its children and names
pub data Node : Type 0 where
  stop : Node
  new : ℕ → ℕ → Node
  par : ℕ → ℕ → Node
  choice : ℕ → ℕ → Node
  agent : Sort → ℕ → List ℕ → ℕ → Node

-- M nodes over N names; a file's bytes are such an array without a list in between
pub record Array : Type 0 where
  pub size : ℕ
  pub names : ℕ
  pub node : ℕ → Node

-- past the last node there is nothing
unfoldable pub node_at : Array → ℕ → Node
node_at a i = cond (ltb i a.size) (a.node i) stop

-- ---- the process tree; choices and agents keep their node's number

pub data Proc : Type 0 where
  stop : Proc
  new : ℕ → Proc → Proc
  par : Proc → Proc → Proc
  choice : ℕ → Proc → Proc → Proc
  agent : ℕ → Sort → ℕ → List ℕ → Proc → Proc

-- node i's tree, from the trees below its children
unfoldable pub grow : ℕ → (ℕ → Proc) → Node → Proc
grow i f stop = Proc.stop
grow i f (new n l) = Proc.new n (f l)
grow i f (par l r) = Proc.par (f l) (f r)
grow i f (choice l r) = Proc.choice i (f l) (f r)
grow i f (agent s x ys l) = Proc.agent i s x ys (f l)

-- the tree below node i, to a depth of d nodes
unfoldable pub tree : ℕ → Array → ℕ → Proc
tree zero a i = Proc.stop
tree (suc d) a i = grow i (λ l. tree d a l) (node_at a i)

-- "A child's number is above its parent's", so no path is longer than the array.
unfoldable pub proc_at : Array → ℕ → Proc
proc_at a i = tree a.size a i

-- ---- agents

pub record Agent : Type 0 where
  pub sort : Sort
  pub channel : ℕ
  pub args : List ℕ
  pub body : Proc  -- the continuation

unfoldable pub as_agent : Proc → Option Agent
as_agent stop = none
as_agent (new n p) = none
as_agent (par p q) = none
as_agent (choice i p q) = none
as_agent (agent i s x ys p) = some record { sort = s; channel = x; args = ys; body = p }

unfoldable pub agent_at : Array → ℕ → Option Agent
agent_at a i = as_agent (proc_at a i)

-- in and resource receive; out sends
unfoldable pub receives : Sort → Bool
receives out = false
receives inp = true
receives resource = true

-- ---- free names

-- "In and resource bind their arguments, called parameters, over the continuation only"; an out uses its own
unfoldable pub free_below : Sort → Bool → Bool → Bool
free_below out sent inside = sent || inside
free_below inp bound inside = not bound && inside
free_below resource bound inside = not bound && inside

unfoldable pub is_free : Proc → ℕ → Bool
is_free stop v = false
is_free (new n p) v = not (eqb v n) && is_free p v
is_free (par p q) v = is_free p v || is_free q v
is_free (choice i p q) v = is_free p v || is_free q v
is_free (agent i s x ys p) v = eqb v x || free_below s (has ys v) (is_free p v)

-- ---- "The load of a node: stop 0, new its child's, par the sum, choice the greater, agent its weight."

unfoldable pub load : (ℕ → ℕ) → Proc → ℕ
load w stop = 0
load w (new n p) = load w p
load w (par p q) = load w p + load w q
load w (choice i p q) = max (load w p) (load w q)
load w (agent i s x ys p) = w i

-- ---- news and agents

unfoldable pub opens : Node → ℕ → Bool
opens stop o = false
opens (new n l) o = eqb o n
opens (par l r) o = false
opens (choice l r) o = false
opens (agent s x ys l) o = false

unfoldable pub is_agent : Node → Bool
is_agent stop = false
is_agent (new n l) = false
is_agent (par l r) = false
is_agent (choice l r) = false
is_agent (agent s x ys l) = true

-- name o is opened by a new
unfoldable pub is_new : Array → ℕ → Bool
is_new a o = any a.size λ i. opens (node_at a i) o
