use native.Mathlib.Omega.{arith}
use mathlib.Core.Path.{refl, ap₂, ◌∙◌}
use Rattle.model.specs.Rules.{comes_after}
use Rattle.layout.specs.Table.{in_order}
use Rattle.layout.specs.TableFile.{table_in}
use Rattle.claims.proofs.Laws.{in_order_lem}
use Rattle.claims.proofs.in_order.Goals as goal

pub returns-then-c-eq0 : goal.returns-then-c-eq0
unfolding in_order
returns-then-c-eq0 c = rw c.if-c-eq0.true refl

pub returns : goal.returns
returns c =
    c.comes_after.ensures ∙ ap₂ comes_after c.claim.ensures c.claim-2.ensures ∙ in_order_lem (table_in c.args.table.now) c.args.c (omega arith)
