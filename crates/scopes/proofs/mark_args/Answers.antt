use Prim.Native.Nat.{ℕ}
use native.Mathlib.Omega.{arith}
use mathlib.Core.Path.{◌≡◌, sym, ap, ap₂, ◌∙◌}
use mathlib.Core.Bool.{Bool, ◌&&◌, ◌||◌, or-false, or_assoc}
use mathlib.Core.List.{List}
use lib.Dec.{eqb, ltb}
use lib.ListN.{length}
use borrow.Author.Rules.{rules}
use Rattle.laws.specs.Search.{any}
use Rattle.laws.proofs.Search.{any-zero, any_step}
use Rattle.marks.specs.Marks.{marked}
use Rattle.marks.proofs.Laws.{mark_if-length, marked_more}
use Rattle.scopes.proofs.Laws.{arg_at, args-found}
use Rattle.scopes.proofs.mark_args.Goals as goal

pub loop-k-init : goal.loop-k-init
loop-k-init c =
    let x = c.args in
    (search rules, λ v h. sym (ap (λ (b : Bool). marked x.row.now 0 v || b) (any-zero (arg_at x.r x.on v)) ∙ or-false _))

pub loop-k-preserved : goal.loop-k-preserved
loop-k-preserved c =
    let x = c.args in
    let l = c.loop-k in
    let e = c.mark_if.ensures in
    let here = x.on && ltb l.k x.r.arity in (
      ap length e ∙ mark_if-length _ _ _ ∙ l.invariant.0,
      λ v h.
          ap (λ (row : List ℕ). marked row 0 v) e
          ∙ marked_more l.row here c.from.result v l.invariant.0 (search rules)
          ∙ ap₂ (λ (b : Bool) (n : ℕ). b || (here && eqb v n)) (l.invariant.1 v h) c.from.ensures
          ∙ or_assoc (marked x.row.now 0 v) (any l.k (arg_at x.r x.on v)) (arg_at x.r x.on v l.k)
          ∙ ap (λ (b : Bool). marked x.row.now 0 v || b) (sym (any_step (arg_at x.r x.on v) l.k)),
    )

pub returns : goal.returns
returns c v h =
    let x = c.args in
    let l : length x.r.args ≡ 8 = search rules in
    let e : c.loop-k.k ≡ 8 = omega arith in
    c.loop-k.invariant.1 v h
    ∙ ap (λ (b : Bool). marked x.row.now 0 v || b) (ap (λ (n : ℕ). any n (arg_at x.r x.on v)) e ∙ args-found x.r x.on v l)
