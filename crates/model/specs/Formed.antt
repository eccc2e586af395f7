-- Refusals 8 to 12 of an array, as searches for their lowest place (01, "Refusals, in checking order").
use Rattle.std.specs.Prelude.{ℕ, zero, suc, ◌≤◌, ◌≡◌, Bool, false, ◌&&◌, ◌||◌, List, [], ◌∷◌, ◌++◌, eqb, ltb}
use Rattle.laws.specs.Search.{Found, clear, test, first, any, sum}
use Rattle.laws.specs.Lists.{all, has, times}
use Rattle.model.specs.Tree.{Array, Sort, out, inp, resource, Node, stop, new, par, choice, agent, node_at}

-- "A refusal gives its number and a place (0 where none is named)."
pub record Refusal : Type 0 where
  pub number : ℕ
  pub place : ℕ

-- refusal n where a test fails
abbrev pub refuse : ℕ → ℕ → Bool → Found Refusal
refuse n place passes = test passes record { number = n; place = place }

-- ---- what a node names: its children, the names it binds, the names it uses (a channel, and what an out sends)

unfoldable pub children : Node → List ℕ
children stop = []
children (new n l) = l ∷ []
children (par l r) = l ∷ r ∷ []
children (choice l r) = l ∷ r ∷ []
children (agent s x ys l) = l ∷ []

-- a new binds its name, an in or resource its parameters
unfoldable pub params : Sort → List ℕ → List ℕ
params out ys = []
params inp ys = ys
params resource ys = ys

unfoldable pub binds : Node → List ℕ
binds stop = []
binds (new n l) = n ∷ []
binds (par l r) = []
binds (choice l r) = []
binds (agent s x ys l) = params s ys

unfoldable pub sent : Sort → List ℕ → List ℕ
sent out ys = ys
sent inp ys = []
sent resource ys = []

unfoldable pub uses : Node → List ℕ
uses stop = []
uses (new n l) = []
uses (par l r) = []
uses (choice l r) = []
uses (agent s x ys l) = x ∷ sent s ys

-- ---- the refusals

-- "8. A child isn't above its parent or isn't below M (parent)."
unfoldable pub child_fits : ℕ → ℕ → ℕ → Bool
child_fits m i c = ltb i c && ltb c m

unfoldable pub refusal8 : Array → Found Refusal
refusal8 a = first a.size λ i. refuse 8 i (all (child_fits a.size i) (children (node_at a i)))

-- "9. A node other than 0 isn't the child of exactly one field (node)."
unfoldable pub fields_to : Array → ℕ → ℕ
fields_to a i = sum a.size λ j. times (children (node_at a j)) i

unfoldable pub refusal9 : Array → Found Refusal
refusal9 a = first a.size λ i. refuse 9 i (eqb i 0 || eqb (fields_to a i) 1)

-- "10. A name used or bound isn't below N (node)."
unfoldable pub refusal10 : Array → Found Refusal
refusal10 a = first a.size λ i. refuse 10 i (all (λ v. ltb v a.names) (uses (node_at a i) ++ binds (node_at a i)))

-- "11. A name below N isn't bound exactly once (name)."
unfoldable pub binders : Array → ℕ → ℕ
binders a v = sum a.size λ j. times (binds (node_at a j)) v

unfoldable pub refusal11 : Array → Found Refusal
refusal11 a = first a.names λ v. refuse 11 v (eqb (binders a v) 1)

-- name v is bound by a node above node i, at most d nodes up
unfoldable pub reaches : ℕ → Array → ℕ → ℕ → Bool
reaches zero a v i = false
reaches (suc d) a v i = any a.size λ j. has (children (node_at a j)) i && (has (binds (node_at a j)) v || reaches d a v j)

-- node i lies in the reach of name v's binder, which is what is below the binder
unfoldable pub in_reach : Array → ℕ → ℕ → Bool
in_reach a v i = reaches a.size a v i

-- "12. A channel or sent name lies outside its binder's reach (node)."
unfoldable pub refusal12 : Array → Found Refusal
refusal12 a = first a.size λ i. refuse 12 i (all (λ v. in_reach a v i) (uses (node_at a i)))

-- ---- what an array that passes them, and 3, is

pub record WellFormed (a : Array) : Type 0 where
  pub some : 1 ≤ a.size
  pub few_nodes : a.size ≤ 1024
  pub few_names : a.names ≤ 256
  pub children : refusal8 a ≡ clear
  pub parents : refusal9 a ≡ clear
  pub named : refusal10 a ≡ clear
  pub bound : refusal11 a ≡ clear
  pub scoped : refusal12 a ≡ clear
