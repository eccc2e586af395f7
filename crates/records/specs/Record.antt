-- A node's record in the file, and what it stands for (01, "The array file").
use Rattle.std.specs.Prelude.{ℕ, ◌+◌, ◌-◌, ◌*◌, ◌≤◌, cond, List, eqb, length, get_or, take, drop, Result, Ok, Err}
use Rattle.laws.specs.Search.{Found, clear, hit}
use Rattle.wire.specs.Numbers.{u16_at}
use Rattle.model.specs.Tree.{Array, Sort, Node, stop, new, par, choice, agent, out, inp, resource}
use Rattle.model.specs.Formed as F
use Rattle.records.specs.declared.Kind.{Kind}
use Rattle.records.specs.declared.Kind.TheVariants as K
use Rattle.records.specs.declared.Record.{Record}
use Rattle.records.specs.declared.Trailer.{Trailer}
use Rattle.records.specs.declared.Reason.{Reason}
use Rattle.records.specs.declared.Reason.TheVariants as R
use Rattle.records.specs.declared.Refusal.{Refusal}

-- ---- the kind

-- "Kind 0 stop .. Kind 1 new .. Kind 2 par, kind 3 choice .. Kind 4 out, 5 in, 6 resource"; a number above 6 names none
abbrev pub kind_of : ℕ → Kind
kind_of k =
    cond (eqb k 0) K.Stop
    (cond (eqb k 1) K.New
    (cond (eqb k 2) K.Par
    (cond (eqb k 3) K.Choice (cond (eqb k 4) K.Out (cond (eqb k 5) K.In (cond (eqb k 6) K.Resource (K.Other (k - 7))))))))

-- the number of a kind
abbrev pub kind_number : Kind → ℕ
kind_number K.Stop = 0
kind_number K.New = 1
kind_number K.Par = 2
kind_number K.Choice = 3
kind_number K.Out = 4
kind_number K.In = 5
kind_number K.Resource = 6
kind_number (K.Other k) = 7 + k

-- ---- the record

-- "A node's record has 16 bytes: kind, arity, left child (16 bits), right child (16 bits), name, zero, then 8 argument bytes."
abbrev pub record_at : List ℕ → ℕ → Record
record_at s b = record {
  kind = kind_of (get_or s b 0);
  arity = get_or s (b + 1) 0;
  left = u16_at s (b + 2);
  right = u16_at s (b + 4);
  name = get_or s (b + 6) 0;
  pad = get_or s (b + 7) 0;
  args = take 8 (drop (b + 8) s);
}

-- node i's record
abbrev pub record_of : List ℕ → Trailer → ℕ → Record
record_of s t i = record_at s (t.start + 16 * i)

-- the M records lie in the file
abbrev pub RecordsFit : List ℕ → Trailer → Type 0
RecordsFit s t = t.start + 16 * t.nodes ≤ length s

-- "arity 0 to 8 with that many argument bytes"
abbrev pub args_of : Record → List ℕ
args_of r = take r.arity r.args

-- "Kind 4 out, 5 in, 6 resource (replicated in)": an agent's sort
abbrev pub sort_for : Kind → Sort
sort_for K.Stop = resource
sort_for K.New = resource
sort_for K.Par = resource
sort_for K.Choice = resource
sort_for K.Out = out
sort_for K.In = inp
sort_for K.Resource = resource
sort_for (K.Other k) = resource

unfoldable pub sort_of : Record → Sort
sort_of r = sort_for r.kind

-- the node that a record stands for, by its kind
abbrev pub node_for : Kind → Record → Node
node_for K.Stop r = stop
node_for K.New r = new r.name r.left
node_for K.Par r = par r.left r.right
node_for K.Choice r = choice r.left r.right
node_for K.Out r = agent out r.name (args_of r) r.left
node_for K.In r = agent inp r.name (args_of r) r.left
node_for K.Resource r = agent resource r.name (args_of r) r.left
node_for (K.Other k) r = agent resource r.name (args_of r) r.left

unfoldable pub node_of : Record → Node
node_of r = node_for r.kind r

-- the array that a file's bytes stand for
abbrev pub array_of : List ℕ → Trailer → Array
array_of s t = record { size = t.nodes; names = t.names; node = λ i. node_of (record_of s t i) }

-- ---- the answers

-- the number of a reason, by 01's list and, from 30 on, 02's
abbrev pub number_of : Reason → ℕ
number_of R.ArrayLength = 1
number_of R.ArrayLetters = 2
number_of R.ArraySizes = 3
number_of R.ArrayParts = 4
number_of R.ArraySum = 5
number_of R.Shape = 6
number_of R.Unused = 7
number_of R.Child = 8
number_of R.Parent = 9
number_of R.Name = 10
number_of R.Binding = 11
number_of R.Reach = 12
number_of R.TableLength = 13
number_of R.TableLetters = 14
number_of R.TableSizes = 15
number_of R.TableParts = 16
number_of R.TableSum = 17
number_of R.OtherArray = 18
number_of R.Row = 19
number_of R.Balance = 20
number_of R.Claim = 21
number_of R.Choices = 22
number_of R.Lists = 23
number_of R.Position = 24
number_of R.Roles = 25
number_of R.Arities = 26
number_of R.Channels = 27
number_of R.Threads = 28
number_of R.Markers = 29
number_of R.Set = 30
number_of R.Order = 31
number_of R.Output = 32

-- "A refusal gives its number and a place (0 where none is named)."
abbrev pub told : Refusal → F.Refusal
told r = record { number = number_of r.reason; place = r.place }

-- what refusals checked in order found
abbrev pub found_of : Result (Unit {0}) Refusal → Found F.Refusal
found_of (Ok x) = clear
found_of (Err r) = hit (told r)

-- an answer, with the refusal in 01's numbers
abbrev pub answered : {A : Type 0} → Result A Refusal → Result A F.Refusal
answered (Ok x) = Ok x
answered (Err r) = Err (told r)
