-- By the reader's answer: a file that was read is longer than its remark.
use mathlib.Core.Path.{◌≡◌, refl, sym, ap, ◌∙◌}
use Rattle.std.specs.Prelude.{Ok}
use lib.Seq.{length-take-le}
use Rattle.records.specs.Record.{answered}
use Rattle.arrays.specs.File.{remark_in, read_array}
use Rattle.arrays.proofs.Laws.{read_is}
use native.Mathlib.Omega.{arith}
use Rattle.arrays.proofs.remark.Goals as goal

pub slice_bounds-result-end : goal.slice_bounds-result-end
slice_bounds-result-end c =
    let s = c.args.file.now in
    let t = c.in-Ok.t in
    let e : read_array s ≡ Ok t = sym c.read_array.ensures ∙ ap answered c.in-Ok.is in
    sym (length-take-le _ s (omega (arith, (read_is s t e).fills)))

pub returns-in-Ok : goal.returns-in-Ok
returns-in-Ok c =
    let s = c.args.file.now in
    (ap (λ r. remark_in r s) (ap answered (sym c.in-Ok.is) ∙ c.read_array.ensures), refl)

pub returns-in-Err : goal.returns-in-Err
returns-in-Err c =
    let s = c.args.file.now in
    (ap (λ r. remark_in r s) (ap answered (sym c.in-Err.is) ∙ c.read_array.ensures), refl)
