-- What is said of a weighing: its receivers, its senders, rows that grow beside it.
use Rattle.std.specs.Prelude.{ℕ, ◌≡◌, true, List, Option, None, Some}
use Rattle.records.specs.Record.{node_of, record_of}
use Rattle.records.specs.Kinds.{is_receiver}
use Rattle.arrays.specs.Agents.{Reads}
use Rattle.pairs.specs.declared.Side.{Side}
use Rattle.pairs.specs.declared.Weighing.{Weighing}
use Rattle.pairs.specs.Weighing.{beside}
use Rattle.senders.specs.Sets.{Linked}
use Rattle.mending.specs.declared.Progress.{Progress}
use Rattle.mending.specs.Growing.{Grew, RuleThree}

-- p is a receiver of the array that is weighed
pub record Receiver (w : Weighing) (p : Side) : Type 0 where
  pub held : Reads w.array.bytes.now w.array.trailer p.number p.node
  pub receives : is_receiver (node_of p.node) ≡ true

-- node j as a side
abbrev pub side_of : Weighing → ℕ → Side
side_of w j = record { number = j; node = record_of w.array.bytes.now w.array.trailer j }

-- the links are those of some sets
abbrev pub LinksSenders : Weighing → List ℕ → Type 0
LinksSenders w links = (chosen : List ℕ) × (sets : ℕ → ℕ) × Linked w.array.bytes.now w.array.trailer chosen sets links

-- nothing is set that rows which meet rule 3 can do without
abbrev pub GrewBeside : Weighing → Progress → Progress → Type 0
GrewBeside w before after = Grew (RuleThree (beside w before.rows)) before.rows before.names after.rows after.names

-- the node that is left, or the number of nodes
abbrev pub left_from : ℕ → Option ℕ → ℕ
left_from nodes None = nodes
left_from nodes (Some i) = i
