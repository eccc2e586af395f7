-- `markers::is_listed` meets its contract: an entry is found where it is one of the first k, and none of them has an unmarked place.
use mathlib.Core.Path.{sym, ap, ◌∙◌}
use Rattle.marks.specs.Marks.{marked}
use Rattle.markers.specs.Markers.{entry_of}
use Rattle.markers.proofs.Laws.{listed_told, unseen}
use Rattle.markers.proofs.is_listed.Goals as goal

pub returns-then-is_marked : goal.returns-then-is_marked
returns-then-is_marked c =
    let x = c.args in
    c.is_some.ensures ∙ listed_told x.markers.now (entry_of x.e) x.k c.find_entry.result c.find_entry.ensures

pub returns-else-is_marked : goal.returns-else-is_marked
returns-else-is_marked c =
    let x = c.args in
    c.if-is_marked.false
    ∙ sym
    (unseen x.seen.now x.markers.now x.k c.requires.k_in_bounds.1 (entry_of x.e)
    (ap (marked x.seen.now 0) (sym c.requires.seen_len.2) ∙ sym c.is_marked.ensures ∙ c.if-is_marked.false))
