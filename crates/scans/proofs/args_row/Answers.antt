use Rattle.std.proofs.Common.{◌≡◌, ℕ, Bool, true, ◌||◌, List, eqb, refl, sym, ap, ap₂, ◌∙◌, length, get_or, arith, rules}
use Rattle.laws.proofs.Search.{any-zero, any_step}
use Rattle.marks.specs.Marks.{marked}
use Rattle.marks.proofs.Laws.{mark_if-length, marked-none, marked_more}
use Rattle.scans.proofs.Args.{any_has}
use Rattle.scans.proofs.args_row.Goals as goal

pub loop-arg-init : goal.loop-arg-init
loop-arg-init c = (refl, λ v. marked-none 4 0 v ∙ sym (any-zero _))

pub loop-arg-preserved : goal.loop-arg-preserved
loop-arg-preserved c =
    let x = c.args in
    let l = c.loop-arg in
    let e = c.mark_if.ensures in (
      ap length e ∙ mark_if-length _ _ _ ∙ l.invariant.0,
      λ v.
          ap (λ (row : List ℕ). marked row 0 v) e
          ∙ marked_more l.row true c.from.result v l.invariant.0 (search rules)
          ∙ ap₂ (λ (b : Bool) (n : ℕ). b || eqb v n) (l.invariant.1 v) c.from.ensures
          ∙ sym (any_step (λ n. eqb v (get_or x.args.now n 0)) l.arg-index),
    )

pub returns : goal.returns
returns c v =
    let e : c.loop-arg.arg-index ≡ length c.args.args.now = omega arith in
    (rw e at c.loop-arg.invariant.1) v ∙ any_has v c.args.args.now
