-- How the bodies of the front page turn the answers of the crates below into their own. No entry's contract cites these.
use Rattle.std.specs.Prelude.{ℕ, ◌≡◌, Result, Ok, Err, List, length}
use Rattle.laws.specs.Search.{clear}
use Rattle.records.specs.declared.Trailer.{Trailer}
use Rattle.arrays.specs.File.{trailer_of, IsRead}
use Rattle.layout.specs.declared.Sizes.{Sizes}
use Rattle.rules.specs.declared.Broken.{Broken}
use Rattle.rules.specs.declared.Broken.TheVariants as R
use Rattle.engine.specs.declared.Stride as E
use Rattle.engine.specs.declared.Stride.TheVariants as S
use Rattle.handover.specs.declared.Verdict.{Verdict}
use Rattle.handover.specs.declared.Verdict.TheVariants.{Held, Rule1, Rule2, Rule3, Rule4, Rule5}
use Rattle.handover.specs.declared.Told.{Told}
use Rattle.handover.specs.declared.Told.TheVariants.{Made, Ended}
use Rattle.handover.specs.Engine.{start_refusal}

-- the verdict that a ruling of the five rules is
abbrev pub verdict_of : Result (Unit {0}) Broken → Sizes → Verdict
verdict_of (Ok u) z = Held z
verdict_of (Err (R.Rule1 o)) z = Rule1 o
verdict_of (Err (R.Rule2 k)) z = Rule2 k
verdict_of (Err (R.Rule3 p q n)) z = Rule3 p q n
verdict_of (Err (R.Rule4 p q k)) z = Rule4 p q k
verdict_of (Err (R.Rule5 c)) z = Rule5 c

-- what is told of a turn of the walk, after so many steps
abbrev pub told_of : E.Stride → ℕ → Told
told_of (S.Ended e) n = Ended e n
told_of (S.Made t) n = Made t

-- array file f was read beside the choice bytes, as g with trailer t
pub record Admitted (f choices g : List ℕ) (t : Trailer) : Type 0 where
  pub bytes : g ≡ f
  pub passes : start_refusal f choices ≡ clear
  pub trailer : trailer_of f ≡ t
  pub many : length choices ≡ 128
  pub read : IsRead f t
