-- A receiver beside sets of senders. A set that passes has no sender that is in a live pair with the receiver and breaks the rule; where the rule
-- holds beside all that the set sends or needs (`figures_pass`), none that meets it and breaks the rule, live or not. A set that does not pass says nothing.
use Rattle.std.specs.Prelude.{ℕ, ◌+◌, ◌<◌, ◌≡◌, Bool, true, false, cond, not, ◌&&◌, List, eqb, ltb, length, get_or}
use Rattle.laws.specs.Search.{every}
use Rattle.marks.specs.Marks.{HasRow, marked, share, inside}
use Rattle.model.specs.Memory.{is_out, is_resource}
use Rattle.records.specs.Record.{node_of}
use Rattle.loads.specs.Loads.{entry_index, load_in}
use Rattle.records.specs.declared.Record.{Record}
use Rattle.pairs.specs.declared.Side.{Side}
use Rattle.pairs.specs.Pairs.{Setting, Held, gone_of, breaks_pair}
use Rattle.senders.specs.Sets.{every_name, sends_by, arity_mark, sent_row}

-- set g has a sender of the receiver's arity, and a channel whose row shares a bit with the receiver's
abbrev pub may_come : List ℕ → List ℕ → List ℕ → ℕ → Side → Bool
may_come unions arities rows g p = marked arities 0 (arity_mark g p.node.arity) && share unions g rows p.node.name

-- what set g sends as argument m is contained in the row of parameter m
abbrev pub arg_inside : List ℕ → List ℕ → ℕ → List ℕ → ℕ → Bool
arg_inside unions rows g params m = inside unions (sent_row g m) rows (get_or params m 0)

-- what set g needs in balance k receiver i, which stays or goes, with continuation l, has to give
abbrev pub need_met : List ℕ → List ℕ → ℕ → Bool → ℕ → ℕ → ℕ → Bool
need_met needs loads g stays i l k = not (ltb (65536 + gone_of stays (load_in loads i k)) (load_in loads l k + load_in needs g k))

-- the same of all arguments by rule 3, in n balances by rule 4
abbrev pub figures_pass : ℕ → ℕ → List ℕ → List ℕ → List ℕ → List ℕ → ℕ → Side → Bool
figures_pass rule n needs unions rows loads g p =
    cond (eqb rule 3) (every p.node.arity (arg_inside unions rows g p.node.args))
    (every n (need_met needs loads g (is_resource (node_of p.node)) p.number p.node.left))

-- ---- what the lists have of a set and a receiver

-- what is sent and what is bound as each argument has a row
abbrev pub ArgRows : List ℕ → List ℕ → ℕ → Record → Type 0
ArgRows unions rows g r = (m : ℕ) → m < r.arity → (m < 8) × HasRow unions (sent_row g m) × HasRow rows (get_or r.args m 0)

-- what is needed and what is given in balance k may be compared
abbrev pub NeedRow : List ℕ → List ℕ → ℕ → ℕ → ℕ → ℕ → Type 0
NeedRow needs loads g i l k =
    (entry_index g k < length needs) × (load_in needs g k < 1073741824) × (entry_index l k < length loads) × (load_in loads l k < 134217728)
    × (entry_index i k < length loads) × (load_in loads i k < 65536)

abbrev pub NeedRows : ℕ → List ℕ → List ℕ → ℕ → ℕ → ℕ → Type 0
NeedRows n needs loads g i l = (k : ℕ) → k < n → NeedRow needs loads g i l k

-- ---- senders that break nothing with receiver p

-- the senders of set g
abbrev pub SetSound : ℕ → Setting → (ℕ → ℕ) → Side → ℕ → Type 0
SetSound rule S sets p g = (q : Side) → Held S q → sends_by every_name q.node ≡ true → sets q.number ≡ g → breaks_pair rule S p q ≡ false

-- all senders
abbrev pub Sound : ℕ → Setting → Side → Type 0
Sound rule S p = (q : Side) → Held S q → is_out (node_of q.node) ≡ true → breaks_pair rule S p q ≡ false
