use mathlib.Core.Path.{◌≡◌, refl, sym, ap, ◌∙◌}
use lib.ListN.{length-set}
use native.Mathlib.Omega.{arith}
use Rattle.laws.specs.Lists.{put}
use Rattle.laws.proofs.Put.{put-nil}
use Rattle.marks.specs.Marks.{marked}
use Rattle.layout.specs.Table.{balance_at}
use Rattle.flows.specs.Written.{row_bytes}
use Rattle.flows.proofs.RowBytes.{byte_put}
use Rattle.flows.proofs.put_rows.Goals as goal

pub loop-i-init : goal.loop-i-init
unfolding row_bytes
loop-i-init c = (sym (put-nil _ _), refl)

pub loop-i-preserved : goal.loop-i-preserved
loop-i-preserved c =
    let x = c.args in
    let l = c.loop-i in
    let room = c.requires.2 in
    let end = c.balance_at-i-end.ensures in (
      rw (l.invariant.0, c.to_le_bytes-word.ensures) (byte_put x.rows.now x.output.now l.i (omega arith)),
      length-set l.output _ _ ∙ l.invariant.1,
    )

pub returns : goal.returns
returns c =
    let x = c.args in
    let l = c.loop-i in
    let done : l.i ≡ balance_at x.z 0 = omega arith in
    l.invariant.0 ∙ ap (λ n. put 0 (row_bytes n (marked x.rows.now)) x.output.now) done
