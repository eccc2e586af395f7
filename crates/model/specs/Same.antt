-- When two tables say the same (02, request ii): "What an accepted table says of an array is untouched." The claims count as a set: tables with the
-- same rows and balances whose claims are the same, in any order and with any repeats, obey the rules alike and say the same of every
-- configuration (proofs/Alike: rules-alike, safe-alike).
use Rattle.std.specs.Prelude.{ℕ, ◌<◌, ◌≡◌, true, get_or}
use Rattle.laws.specs.Lists.{All}
use Rattle.model.specs.Tree.{Array, node_at, is_agent, proc_at, is_free}
use Rattle.model.specs.Calculus.{Marker, Cell, unheld, holds, Thread, Config}
use Rattle.model.specs.declared.Claim.{Claim}
use Rattle.model.specs.Rules.{Table, row_bits, Each}

-- the same rows and balances: on rows of the array's names, on bounds, and on weights of its agents
pub record Alike (a : Array) (t u : Table) : Type 0 where
  pub rows : (v o : ℕ) → v < a.names → o < row_bits → t.row v o ≡ u.row v o
  pub many : t.balances ≡ u.balances
  pub bounds : (k : ℕ) → k < t.balances → (t.balance k).bound ≡ (u.balance k).bound
  pub weights : (k i : ℕ) → k < t.balances → is_agent (node_at a i) ≡ true → (t.balance k).weight i ≡ (u.balance k).weight i

-- claim x is one of the table's
abbrev pub Among : Table → Claim → Type 0
Among t x = (c : ℕ) × (c < t.claims) × (t.claim c ≡ x)

-- the same claims as a set
pub record SameClaims (t u : Table) : Type 0 where
  pub there : Each t.claims λ c. Among u (t.claim c)
  pub back : Each u.claims λ c. Among t (u.claim c)

-- "A thread is an agent node, a marker and, for each name free in that agent, an opening: the new that opened it and its marker": its node is an
-- agent of the array, and what a free name holds was opened by one of the array's names
pub record IsThread (a : Array) (th : Thread Marker Cell) : Type 0 where
  pub agent : is_agent (node_at a th.agent) ≡ true
  pub opened : (v o : ℕ) (m : Marker) → is_free (proc_at a th.agent) v ≡ true → get_or th.env v unheld ≡ holds o m → o < a.names

-- "A configuration is a list of threads."
abbrev pub IsConfig : Array → Config Marker Cell → Type 0
IsConfig a c = All (IsThread a) c
