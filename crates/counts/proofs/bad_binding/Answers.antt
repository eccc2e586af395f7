-- The marks are the model's numbers of binders, so the two searches answer the same.
use Rattle.std.proofs.Common.{ℕ, Bool, ◌||◌, eqb, ltb, ap₂, ◌∙◌, arith, rules}
use lib.Dec.{leb-suc-zero}
use Rattle.laws.proofs.Search.{first-same}
use Rattle.model.specs.Formed.{refuse, refusal11}
use Rattle.counts.proofs.Laws.{front_search}
use Rattle.counts.proofs.bad_binding.Goals as goal

pub returns : goal.returns
unfolding refusal11
returns c =
    let a = c.args.array.now in
    let n = a.trailer.names in
    c.first_not_one.ensures
    ∙ front_search c.count_binders-marks.result _ n (λ k x. refuse 11 k (ltb k 0 || eqb x 1)) (search rules) (search rules)
    ∙ first-same n _ _
    (λ k l. ap₂ (λ (b : Bool) (x : ℕ). refuse 11 k (b || eqb x 1)) (leb-suc-zero k) (c.count_binders-marks.ensures k (omega (arith, a.few_names))))
