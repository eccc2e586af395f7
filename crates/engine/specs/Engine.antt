-- Start, step and walk on the lists of an array that was read: refusal 23 first, then the model's; and one turn of the walk.
use Rattle.std.specs.Prelude.{ℕ, ◌+◌, ◌-◌, ◌≡◌, true, false, cond, List, [], get_or}
use Rattle.std.specs.Prelude as P
use Rattle.std.specs.Prelude.{Ok, Err}
use Rattle.model.specs.Tree.{Array}
use Rattle.model.specs.Calculus.{Choices, choices_of, Attempt}
use Rattle.model.specs.Numbers.{nobody}
use Rattle.model.specs.Memory as M
use Rattle.model.specs.Memory.{Memory, memory, config_of, formed, Result, stops, start_in, step_in, try, walk_in, marker_made, Next, ended, moved, next_in}
use Rattle.records.specs.declared.Trailer.{Trailer}
use Rattle.records.specs.declared.Reason.{Reason}
use Rattle.records.specs.Record.{number_of, array_of}
use Rattle.lent.specs.declared.Counts.{Counts}
use Rattle.lent.specs.Lent.{lent_of}
use Rattle.steps.specs.declared.Fired.{Fired}
use Rattle.steps.specs.Steps.{FiredAs, UnderMarker}
use Rattle.engine.specs.declared.Allowance.{Allowance}
use Rattle.engine.specs.declared.Turn.{Turn}
use Rattle.engine.specs.declared.Stride.{Stride}
use Rattle.engine.specs.declared.Stride.TheVariants.{Ended, Made}
use Rattle.engine.specs.declared.Walk.{Walk}

-- ---- start and step

-- the start of an array file f whose trailer says t, on the list l; it runs under no marker
abbrev pub Begins : List ℕ → Trailer → List ℕ → List ℕ → P.Result Fired Reason → List ℕ → Type 0
Begins f t choices l e l' =
    let m = memory l 0 [] 0 in
    FiredAs m (start_in (array_of f t) (choices_of choices) m) e l' [] × UnderMarker 0 e

-- 23, else 24 to 29, or the step
unfoldable pub checked_step : Array → Memory → Attempt → Result
checked_step a m u = cond (formed a m) (step_in a m u) (stops 23)

-- 23, or the step of threads r and s
abbrev pub FiresChecked : List ℕ → Trailer → List ℕ → List ℕ → List ℕ → Counts → ℕ → ℕ → P.Result Fired Reason → List ℕ → List ℕ → Type 0
FiresChecked f t choices l ml n r s e l' ml' =
    let a = array_of f t in
    let m = lent_of l ml n in
    let u = try (choices_of choices) r s in
    FiredAs m (checked_step a m u) e l' ml' × UnderMarker (marker_made a m u) e

-- ---- one turn of the walk

-- what a turn tells: the two agents, the marker number of the receiver's continuation, the counts, and the lessened allowance
pub record TurnOf (a : Array) (w : Allowance) (m : Memory) (u : Attempt) (n : Memory) (x : Turn) : Type 0 where
  pub receiver : x.receiver ≡ (get_or (config_of a m) u.receiver nobody).agent
  pub sender : x.sender ≡ (get_or (config_of a m) u.sender nobody).agent
  pub marker : x.marker ≡ marker_made a m u
  pub threads : x.counts.threads ≡ n.thread_count
  pub markers : x.counts.markers ≡ n.marker_count
  pub allowance : x.allowance ≡ record { allowed = w.allowed; left = w.left - 1 }

-- a stride's answer and both lists at exit
abbrev pub Strides : Array → Allowance → Memory → Next → Stride → List ℕ → List ℕ → Type 0
Strides a w m x (Ended e) l ml = (x ≡ ended e) × (l ≡ m.threads) × (ml ≡ m.markers)
Strides a w m x (Made y) l ml = (u : Attempt) × (x ≡ moved u (lent_of l ml y.counts)) × TurnOf a w m u (lent_of l ml y.counts) y

-- ---- the walk

-- the same walk with n steps more, made first
abbrev pub added : ℕ → M.Walked → M.Walked
added n w = record { ending = w.ending; steps = n + w.steps; left = w.left }

-- a walk's answer and both lists at exit
abbrev pub walked_of : Walk → List ℕ → List ℕ → M.Walked
walked_of w l ml = record { ending = w.ending; steps = w.steps; left = lent_of l ml w.counts }

-- 23, or the walk
abbrev pub WalkedAs : Array → Choices → ℕ → Memory → P.Result Walk Reason → List ℕ → List ℕ → Type 0
WalkedAs a ch allowed m (Err e) l ml = (number_of e ≡ 23) × (formed a m ≡ false) × (l ≡ m.threads) × (ml ≡ m.markers)
WalkedAs a ch allowed m (Ok w) l ml = (formed a m ≡ true) × (walked_of w l ml ≡ walk_in a ch allowed m)

-- 23, or one turn of the walk
abbrev pub Turns : Array → Choices → Allowance → Memory → P.Result Stride Reason → List ℕ → List ℕ → Type 0
Turns a ch w m (Err e) l ml = (number_of e ≡ 23) × (formed a m ≡ false) × (l ≡ m.threads) × (ml ≡ m.markers)
Turns a ch w m (Ok x) l ml = (formed a m ≡ true) × Strides a w m (next_in a ch w.left m) x l ml
