use mathlib.Core.Path.{sym, ap, ◌∙◌}
use lib.Seq.{take_all}
use native.Mathlib.Omega.{arith}
use Rattle.laws.specs.Lists.{put}
use Rattle.laws.proofs.Put.{put-nil}
use Rattle.flows.proofs.RowBytes.{byte-copied}
use Rattle.flows.proofs.copy_bytes.Goals as goal

pub loop-i-init : goal.loop-i-init
loop-i-init c = sym (put-nil _ _)

pub loop-i-preserved : goal.loop-i-preserved
loop-i-preserved c =
    let x = c.args in
    let l = c.loop-i in
    rw l.invariant (byte-copied x.table.now x.output.now l.i (omega arith) c.requires)

pub returns : goal.returns
returns c =
    let x = c.args in
    let l = c.loop-i in
    l.invariant ∙ ap (λ t. put 0 t x.output.now) (take_all l.i x.table.now (omega arith))
