-- Agents, by the records of a file.
use Rattle.std.specs.Prelude.{ℕ, ◌<◌, ◌≡◌, List}
use Rattle.model.specs.Tree.{Array, Agent, proc_at}
use Rattle.records.specs.declared.Record.{Record}
use Rattle.records.specs.declared.Trailer.{Trailer}
use Rattle.records.specs.Record.{record_of, args_of, sort_of}

-- the agent that a record stands for, where its node is one
abbrev pub agent_in : Array → Record → Agent
agent_in a r = record { sort = sort_of r; channel = r.name; args = args_of r; body = proc_at a r.left }

-- node i's record is r
pub record Reads (f : List ℕ) (t : Trailer) (i : ℕ) (r : Record) : Type 0 where
  pub below : i < t.nodes
  pub is : r ≡ record_of f t i
