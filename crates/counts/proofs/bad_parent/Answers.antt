-- The table's entries are the model's numbers of fields, so the two searches answer the same.
use Rattle.std.proofs.Common.{ℕ, Bool, ◌||◌, eqb, ltb, ap₂, ◌∙◌, arith, rules}
use Rattle.laws.proofs.Search.{first-same}
use Rattle.model.specs.Formed.{refuse, refusal9}
use Rattle.counts.proofs.Laws.{below_one, front_search}
use Rattle.counts.proofs.bad_parent.Goals as goal

pub returns : goal.returns
unfolding refusal9
returns c =
    let a = c.args.array.now in
    let n = a.trailer.nodes in
    c.first_not_one.ensures
    ∙ front_search c.count_fields-table.result _ n (λ k x. refuse 9 k (ltb k 1 || eqb x 1)) (search rules) (search rules)
    ∙ first-same n _ _
    (λ k l. ap₂ (λ (b : Bool) (x : ℕ). refuse 9 k (b || eqb x 1)) (below_one k) (c.count_fields-table.ensures k (omega (arith, a.few_nodes))))
