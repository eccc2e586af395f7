-- `markers::is_entry` meets its contract: the derived equality is that of the four numbers.
use mathlib.Core.Path.{sym, ap, ◌∙◌}
use Rattle.model.specs.Numbers as N
use Rattle.model.specs.Numbers.{same_entry}
use Rattle.markers.specs.Markers.{entry_of}
use Rattle.markers.proofs.Laws.{same_derived}
use Rattle.markers.proofs.is_entry.Goals as goal

pub returns : goal.returns
returns c =
    c.eq.ensures ∙ sym (same_derived (entry_of c.entry_at.result) (entry_of c.args.e)) ∙ ap (λ (d : N.Entry). same_entry d (entry_of c.args.e)) c.entry_at.ensures
