-- `markers::entries_formed` meets its contract: each entry is well formed, and no two are equal.
use Rattle.std.proofs.Common.{rules, arith, ◌≡◌, ◌∙◌, refl, sym, ap, ℕ, ◌*◌, drop, get_or, Bool}
use Rattle.std.proofs.lemmas.Iterator.{YieldsList-from_range}
use Rattle.std.proofs.lemmas.Iterator.Search.{all_from_yields_List}
use mathlib.Core.Bool.{◌&&◌}
use Rattle.laws.specs.Search.{every}
use Rattle.laws.proofs.Search.{every-same}
use Rattle.model.specs.Numbers.{no_entry}
use Rattle.model.specs.Memory.{entry_in, entries_in, entry_formed, unlike}
use Rattle.model.proofs.Memory.{entries_at}
use Rattle.records.specs.ArrayFile.{array_in}
use Rattle.markers.specs.Markers.{entries_formed}
use Rattle.markers.proofs.Laws.{every-below}
use Rattle.markers.proofs.entries_formed.Goals as goal
use Rattle.markers.proofs.entries_formed.Goals.{After-all}

-- what is asked of each entry alone
tested : (c : After-all) → let x = c.args in
    c.all.result ≡ every x.count (λ i. entry_formed (array_in x.array.now) i (get_or (entries_in x.count x.markers.now) i no_entry))
tested c =
    let x = c.args in
    let f : ℕ → Bool = λ i. entry_formed (array_in x.array.now) i (entry_in (drop (4 * i) x.markers.now)) in
    all_from_yields_List f _ _ c.all.result c.all.ensures.ran (YieldsList-from_range 0 x.count x.count refl (omega arith)) (λ i b q h. search rules)
    ∙ every-below f x.count
    ∙ every-same x.count f _ (λ i h. ap (entry_formed (array_in x.array.now) i) (sym (entries_at i x.count x.markers.now h)))

pub returns-then-all : goal.returns-then-all
unfolding entries_formed
returns-then-all c =
    let x = c.args in
    let each = sym (tested (goal.at.returns-then-all c).After-all) ∙ c.if-all.true in
    c.entries_unlike.ensures ∙ sym (ap (λ (b : Bool). b && every x.count (unlike (entries_in x.count x.markers.now))) each)

pub returns-else-all : goal.returns-else-all
unfolding entries_formed
returns-else-all c =
    let x = c.args in
    let each = sym (tested (goal.at.returns-else-all c).After-all) ∙ c.if-all.false in
    c.if-all.false ∙ sym (ap (λ (b : Bool). b && every x.count (unlike (entries_in x.count x.markers.now))) each)
