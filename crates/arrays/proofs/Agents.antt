-- What the records of a file that was read say of its nodes and its agents.
use Prim.Native.Nat.{ℕ, ◌+◌, ◌*◌, ◌≤◌, ◌<◌}
use native.Mathlib.Omega.{arith}
use mathlib.Core.Path.{◌≡◌, refl, sym, ap, ◌∙◌}
use mathlib.Core.Bool.{true, false, ◌||◌, true≢false}
use mathlib.Core.List.{List}
use mathlib.Core.Option.{none, some}
use lib.Dec.{ltb}
use lib.ListN.{length}
use lib.Seq.{length-take-le}
use borrow.Author.Tests.{ltb-true}
use Rattle.laws.specs.Lists.{All, all}
use Rattle.laws.proofs.Search.{and_split}
use Rattle.model.specs.Tree.{Array, Node, node_at, is_agent, Proc, proc_at, agent_at}
use Rattle.model.specs.Nodes.{agent_of}
use Rattle.model.specs.Formed.{binds, WellFormed}
use Rattle.model.proofs.Tree.{names-below, wf-proc_at, agent-tree, AgentWf}
use Rattle.model.proofs.Nodes.{agent-at}
use Rattle.records.specs.declared.Record.{Record}
use Rattle.records.specs.declared.Trailer.{Trailer}
use Rattle.records.specs.Record.{record_of, args_of, sort_of, node_of, array_of}
use Rattle.records.specs.Kinds.{is_stop, is_new_node, is_par, is_choice}
use Rattle.records.proofs.Laws.{eight-args, node-read, child-of}
use Rattle.records.proofs.KindLaws as K
use Rattle.arrays.specs.File.{IsRead}
use Rattle.arrays.specs.Agents.{agent_in, Reads}
use Rattle.arrays.proofs.Laws.{arity-small}

module _ (f : ℕ → Proc) (r : Record) where
  agent-some : is_agent (node_of r) ≡ true → agent_of f (node_of r) ≡ some record { sort = sort_of r; channel = r.name; args = args_of r; body = f r.left }
  unfolding agent_of
  agent-some h = rw (K.agent-is r h)

  agent-none : is_agent (node_of r) ≡ false → agent_of f (node_of r) ≡ none
  unfolding agent_of is_agent
  agent-none = K.by-node r (λ n. is_agent n ≡ false → agent_of f n ≡ none) (λ h. refl) (λ h. refl) (λ h. refl) (λ h. refl) (λ h. absurd (true≢false h))

module _ {f : List ℕ} {t : Trailer} (read : IsRead f t) where
  abbrev a : Array
  a = array_of f t

  wf : WellFormed a
  wf = read.formed

  pub node-is : {i : ℕ} {r : Record} → Reads f t i r → node_at a i ≡ node_of r
  node-is {i} {r} h = node-read f t i r h.below h.is

  -- its children lie above it
  pub left-above : {i : ℕ} {r : Record} → Reads f t i r → is_stop (node_of r) ≡ false → (i < r.left) × (r.left < t.nodes)
  left-above {i} {r} h k = child-of f t i r h.below h.is wf.children r.left (K.left-child r k)

  pub right-above : {i : ℕ} {r : Record} → Reads f t i r → is_par (node_of r) || is_choice (node_of r) ≡ true → (i < r.right) × (r.right < t.nodes)
  right-above {i} {r} h k = child-of f t i r h.below h.is wf.children r.right (K.right_child r k)

  -- a new opens one of the array's names
  pub new-below : {i : ℕ} {r : Record} → Reads f t i r → is_new_node (node_of r) ≡ true → r.name < t.names
  unfolding binds all
  new-below {i} {r} h k =
      let b = (names-below a wf.named i h.below).1 in
      let e : node_at a i ≡ Node.new r.name r.left = node-is h ∙ K.new_is r k in
      ltb-true _ _ (and_split (ltb r.name t.names) true (ap (λ (v : Node). all (λ n. ltb n t.names) (binds v)) (sym e) ∙ b)).0

  pub agent-is : {i : ℕ} {r : Record} → Reads f t i r → is_agent (node_of r) ≡ true → agent_at a i ≡ some (agent_in a r)
  agent-is {i} {r} h k = agent-at a wf.children i h.below ∙ ap (agent_of (λ l. proc_at a l)) (node-is h) ∙ agent-some (λ l. proc_at a l) r k

  pub no-agent : {i : ℕ} {r : Record} → Reads f t i r → is_agent (node_of r) ≡ false → agent_at a i ≡ none
  no-agent {i} {r} h k = agent-at a wf.children i h.below ∙ ap (agent_of (λ l. proc_at a l)) (node-is h) ∙ agent-none (λ l. proc_at a l) r k

  -- a record has as many arguments as its arity says, at most 8
  pub small-arity : {i : ℕ} {r : Record} → Reads f t i r → r.arity ≤ 8
  small-arity {i} h = rw h.is (arity-small f t read i h.below)

  pub arity-is : {i : ℕ} {r : Record} → Reads f t i r → length (args_of r) ≡ r.arity
  arity-is {i} h =
      let e : length (record_of f t i).args ≡ 8 = eight-args f (t.start + 16 * i) (let l = h.below in omega (arith, read.fills)) in
      rw h.is (length-take-le (record_of f t i).arity (record_of f t i).args (omega (arith, arity-small f t read i h.below)))

  -- its names are below N
  named : {i : ℕ} {r : Record} → Reads f t i r → is_agent (node_of r) ≡ true → AgentWf a i (sort_of r) r.name (args_of r) (proc_at a r.left)
  named {i} {r} h k =
      (rw (agent-tree a wf.children i (agent_in a r) (agent-is h k)) at (wf-proc_at a wf.children wf.named i h.below)).0

  pub name_below : {i : ℕ} {r : Record} → Reads f t i r → is_agent (node_of r) ≡ true → r.name < t.names
  name_below h k = (named h k).channel

  pub args-below : {i : ℕ} {r : Record} → Reads f t i r → is_agent (node_of r) ≡ true → All (λ y. y < t.names) (args_of r)
  args-below h k = (named h k).args

  -- its continuation is a node
  pub left_below : {i : ℕ} {r : Record} → Reads f t i r → is_agent (node_of r) ≡ true → r.left < t.nodes
  left_below {i} {r} h k = (left-above h (K.agent-continues r k)).1
