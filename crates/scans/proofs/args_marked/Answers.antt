use Rattle.std.proofs.Common.{◌≡◌, ◌&&◌, sym, ap, ap₂, ◌∙◌, length, get_or, arith}
use Rattle.laws.proofs.Search.{every-zero, every-step}
use Rattle.marks.specs.Marks.{marked}
use Rattle.scans.proofs.Args.{every_all}
use Rattle.scans.proofs.args_marked.Goals as goal

pub loop-arg-init : goal.loop-arg-init
loop-arg-init c = sym (every-zero _)

pub loop-arg-preserved : goal.loop-arg-preserved
loop-arg-preserved c =
    let x = c.args in
    let l = c.loop-arg in
    let e = c.is_marked-found.ensures ∙ ap (marked x.reach.now x.i) c.from.ensures in
    ap₂ ◌&&◌ l.invariant e ∙ sym (every-step (λ n. marked x.reach.now x.i (get_or x.args.now n 0)) l.arg-index)

pub returns : goal.returns
returns c =
    let x = c.args in
    let e : c.loop-arg.arg-index ≡ length x.args.now = omega arith in
    (rw e at c.loop-arg.invariant) ∙ every_all (marked x.reach.now x.i) x.args.now
