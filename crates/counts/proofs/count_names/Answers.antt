-- The table grows by the name of a new, then by the parameters: together by the names that the node binds.
use Rattle.laws.proofs.Lists.{one-le}
use Rattle.counts.proofs.Laws.{grown-then, grown-below, times-binds}
use native.Mathlib.Omega.{arith}
use Rattle.counts.proofs.count_names.Goals as goal

pub add_if-requires : goal.add_if-requires
add_if-requires c = omega (arith, c.requires c.args.r.name)

pub count_params-requires : goal.count_params-requires
count_params-requires c =
    grown-below c.args.table.now c.add_if.new.table c.add_if.auto.table _ c.add_if.ensures 60000 1 65000 c.requires (λ v. one-le _) (omega arith)

pub returns : goal.returns
returns c v l =
    let x = c.args in
    let opened = rw c.is_new.ensures at c.add_if.ensures in
    omega (arith, grown-then x.table.now c.add_if.new.table c.add_if.auto.table _ opened c.count_params.new.table _ c.count_params.ensures v l, times-binds x.r v)
