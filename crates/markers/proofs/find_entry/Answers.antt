-- `markers::find_entry` meets its contract: the first entry that equals e, or none of them does.
use Rattle.std.proofs.Common.{rules, ◌≡◌, ◌*◌, drop, true, false}
use Rattle.std.proofs.lemmas.Iterator.{first_from_Range}
use Rattle.model.specs.Numbers.{same_entry}
use Rattle.model.specs.Memory.{entry_in}
use Rattle.markers.specs.Markers.{entry_of}
use Rattle.markers.proofs.Laws.{found}
use Rattle.markers.proofs.find_entry.Goals as goal

pub returns : goal.returns
returns c =
    let x = c.args in
    let told = first_from_Range _ _ _ c.find.result
    (λ k. same_entry (entry_in (drop (4 * k) x.markers.now)) (entry_of x.e) ≡ true)
    (λ k. same_entry (entry_in (drop (4 * k) x.markers.now)) (entry_of x.e) ≡ false)
    c.find.ensures.ran
    (λ k q h. search rules) (λ k q h. search rules) in
    found x.markers.now (entry_of x.e) x.count c.find.result told
