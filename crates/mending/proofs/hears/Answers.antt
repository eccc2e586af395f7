use mathlib.Core.Path.{sym, ◌∙◌}
use native.Mathlib.Omega.{arith}
use Rattle.records.proofs.KindLaws.{receiver-is}
use Rattle.pairs.proofs.Laws.{name-row}
use Rattle.pairs.proofs.Beside.{given-beside}
use Rattle.mending.proofs.hears.Goals as goal

pub contained-requires : goal.contained-requires
contained-requires c =
    let g = given-beside c.args.w.now c.args.rows.now (omega arith) in
    (name-row g c.requires.0.held (receiver-is _ c.requires.0.receives).0, name-row g c.requires.1 (receiver-is _ (sym c.receives.ensures ∙ c.if-r-p.true.0)).0)

pub no_heavier-requires : goal.no_heavier-requires
no_heavier-requires c =
    let half = c.args.w.now.is_weighed.weighed.half in
    (half _ c.requires.0.held.below, half _ c.requires.1.below)
