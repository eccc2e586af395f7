-- The byte where the argument stands.
use Prim.Native.Nat.{◌+◌, ◌*◌}
use mathlib.Core.Path.{sym, ◌∙◌}
use lib.ListN.{drop}
use lib.Seq.{get_or-take, get_or-drop}
use native.Mathlib.Omega.{arith}
use Rattle.records.proofs.arg_at.Goals as goal

pub returns : goal.returns
returns c =
    let f = c.args.file.now in
    let at = c.args.t.start + 16 * c.args.i + 8 in
    (c.from.ensures ∙ sym (get_or-take 8 (drop at f) c.args.n 0 c.requires.2 ∙ get_or-drop at f c.args.n 0), omega (arith, c.from.ensures))
