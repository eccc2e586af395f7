use Prim.Native.Nat.{ℕ}
use native.Mathlib.Omega.{arith}
use mathlib.Core.Path.{◌≡◌, sym, ap, ap₂, ◌∙◌}
use mathlib.Core.Bool.{Bool, ◌&&◌, ◌||◌}
use lib.Dec.{leb}
use lib.ListN.{length, get_or}
use borrow.Author.Rules.{rules}
use Rattle.laws.specs.Search.{every}
use Rattle.laws.proofs.Search.{every-zero, every-step}
use Rattle.laws.proofs.Lists.{all_take}
use Rattle.marks.specs.Marks.{marked}
use Rattle.scopes.proofs.args_marked.Goals as goal
use Rattle.scopes.proofs.args_marked.Invariants.{arg_in}

pub loop-k-init : goal.loop-k-init
loop-k-init c =
    let x = c.args in
    sym (every-zero (arg_in x.reach.now x.i x.r))

pub loop-k-preserved : goal.loop-k-preserved
loop-k-preserved c =
    let x = c.args in
    let l = c.loop-k in
    let e : c.is_marked-here.result ≡ marked x.reach.now x.i (get_or x.r.args l.k 0) =
    c.is_marked-here.ensures ∙ ap (marked x.reach.now x.i) c.from.ensures in
    ap₂ (λ (b m : Bool). b && (leb x.r.arity l.k || m)) l.invariant e ∙ sym (every-step (arg_in x.reach.now x.i x.r) l.k)

pub returns : goal.returns
returns c =
    let x = c.args in
    let l : length x.r.args ≡ 8 = search rules in
    let e : c.loop-k.k ≡ length x.r.args = omega arith in
    c.loop-k.invariant ∙ ap (λ (n : ℕ). every n (arg_in x.reach.now x.i x.r)) e
    ∙ sym (all_take (marked x.reach.now x.i) 0 x.r.args x.r.arity)
