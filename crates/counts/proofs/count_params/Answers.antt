use Rattle.std.proofs.Common.{◌≡◌, ℕ, ◌+◌, sym, ap, ◌∙◌, length, get_or, arith, rules}
use Rattle.laws.proofs.Lists.{one-le}
use Rattle.counts.proofs.Laws.{counted_none, counted-more, counted-below, param_at, times-params}
use Rattle.counts.proofs.count_params.Goals as goal

pub loop-k-init : goal.loop-k-init
loop-k-init c = counted_none c.args.table.now (param_at c.args.r)

pub add_if-requires : goal.add_if-requires
add_if-requires c =
    let at = c.loop-k in
    counted-below c.args.table.now at.table (param_at c.args.r) at.k at.invariant 65000 1 65535 c.requires
    (λ k v. one-le _) (omega arith) c.from.result

pub loop-k-preserved : goal.loop-k-preserved
loop-k-preserved c =
    let x = c.args in
    let at = c.loop-k in
    let binds = c.receives-binds.ensures in
    let grown = rw (binds, c.from.ensures) at c.add_if.ensures in
    counted-more x.table.now at.table (param_at x.r) at.k at.invariant c.add_if.new.table c.add_if.auto.table grown

pub returns : goal.returns
returns c v l =
    let x = c.args in
    let e : c.loop-k.k ≡ 8 = omega arith in
    let h : length x.r.args ≡ 8 = search rules in
    (rw e at c.loop-k.invariant.1) v l ∙ ap (λ (n : ℕ). get_or x.table.now v 0 + n) (sym (times-params x.r h v))
