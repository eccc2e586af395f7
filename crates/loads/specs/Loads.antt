-- What the list of loads holds: the load of node i in balance k is entry 24 × i + k.
use Rattle.std.specs.Prelude.{ℕ, ◌+◌, ◌*◌, ◌≤◌, ◌<◌, ◌≡◌, List, length, get_or}
use Rattle.model.specs.Tree.{Array, proc_at, load}
use Rattle.model.specs.Nodes.{load_of}
use Rattle.model.specs.Rules.{Table}
use Rattle.records.specs.declared.Record.{Record}
use Rattle.records.specs.Record.{node_of}

abbrev pub entry_index : ℕ → ℕ → ℕ
entry_index i k = 24 * i + k

abbrev pub load_in : List ℕ → ℕ → ℕ → ℕ
load_in loads i k = get_or loads (entry_index i k) 0

-- an entry is there, and the sum of two such entries fits 32 bits
abbrev pub Half : List ℕ → ℕ → ℕ → Type 0
Half loads i k = (entry_index i k < length loads) × (load_in loads i k < 2147483648)

-- the load in balance k of the node that a record stands for, from its weight and the entries of its children
abbrev pub load_from : List ℕ → Record → ℕ → ℕ → ℕ
load_from loads r k weight = load_of (λ i. weight) 0 (λ c. load_in loads c k) (node_of r)

-- from node n on
abbrev pub FilledFrom : List ℕ → Array → Table → ℕ → Type 0
FilledFrom loads a t n = (i k : ℕ) → n ≤ i → i < a.size → k < t.balances → load_in loads i k ≡ load (t.balance k).weight (proc_at a i)

abbrev pub AllLoads : List ℕ → Array → Table → Type 0
AllLoads loads a t = (i k : ℕ) → i < a.size → k < t.balances → load_in loads i k ≡ load (t.balance k).weight (proc_at a i)
