use Rattle.std.proofs.Common.{◌≡◌, ℕ, ◌+◌, ap, ◌∙◌, length, get_or, arith, rules}
use Rattle.laws.proofs.Lists.{one-le}
use Rattle.counts.proofs.Laws.{counted_none, counted-more, counted-below}
use Rattle.scans.proofs.Args.{sum_times}
use Rattle.scans.proofs.count_args.Goals as goal
use Rattle.scans.proofs.count_args.Invariants.{adds}

pub loop-arg-init : goal.loop-arg-init
loop-arg-init c = let x = c.args in counted_none x.binders.now (adds x.args.now)

pub count-requires : goal.count-requires
count-requires c =
    let x = c.args in
    let p = c.requires in
    let l = c.loop-arg in
    let same = l.invariant.0 in (
      search rules,
      counted-below x.binders.now l.binders (adds x.args.now) l.arg-index l.invariant 60000 1 65535 p.1
          (λ k v. one-le _) (omega arith) c.from.result,
    )

pub loop-arg-preserved : goal.loop-arg-preserved
loop-arg-preserved c =
    let x = c.args in
    let l = c.loop-arg in
    let grown = rw c.from.ensures at c.count.ensures in
    counted-more x.binders.now l.binders (adds x.args.now) l.arg-index l.invariant c.count.new.table c.count.auto.table grown

pub returns : goal.returns
returns c v l =
    let x = c.args in
    let e : c.loop-arg.arg-index ≡ length x.args.now = omega arith in
    (rw e at c.loop-arg.invariant.1) v l ∙ ap (λ (n : ℕ). get_or x.binders.now v 0 + n) (sum_times v x.args.now)
