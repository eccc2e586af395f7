use mathlib.Core.Path.{ap₂, ◌∙◌}
use Rattle.layout.specs.Table.{agrees}
use Rattle.layout.specs.TableFile.{table_in}
use Rattle.claims.proofs.Laws.{fits-by-first}
use Rattle.claims.proofs.set_fits.Goals as goal

pub returns : goal.returns
returns c passed =
    c.claims_agree.ensures ∙ ap₂ agrees c.claim.ensures c.claim-2.ensures
    ∙ fits-by-first (table_in c.args.table.now) c.args.c c.first_claim-first.result c.first_claim-first.ensures passed
