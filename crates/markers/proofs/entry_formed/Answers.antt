-- `markers::entry_formed` meets its contract: past the last node there is a stop, which is neither a resource nor an out.
use mathlib.Core.Path.{ap, ◌∙◌}
use Rattle.model.specs.Memory.{entry_formed, is_resource, is_out}
use Rattle.markers.proofs.entry_formed.Goals as goal

pub returns : goal.returns
unfolding entry_formed
returns c =
    let r = c.is_resource.ensures ∙ ap is_resource c.node_or_stop-resource.ensures in
    let o = c.sends.ensures ∙ ap is_out c.node_or_stop-out.ensures in
    rw (r, o, c.from.ensures, c.from-2.ensures, c.from-3.ensures, c.from-4.ensures)
