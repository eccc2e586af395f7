-- Where there are no figures nothing is found.
use Prim.Native.Nat.{ℕ}
use mathlib.Core.Path.{◌≡◌, refl, sym}
use mathlib.Core.Bool.{Bool, true, false, cond}
use denote.Enum.Bare.{same_true}
use borrow.Author.Rules.{rules}
use native.Mathlib.Omega.{arith}
use Rattle.records.specs.declared.Record.{Record}
use Rattle.records.specs.Record.{node_of}
use Rattle.records.specs.Kinds.{is_receiver}
use Rattle.pairs.specs.contracts.PairRule.{the_type}
use Rattle.pairs.specs.declared.PairRule.{PairRule}
use Rattle.pairs.specs.declared.PairRule.TheVariants.{Fourth}
use Rattle.pairs.specs.Pairs.{rule_number, figures_of}
use Rattle.pairs.specs.Weighing.{beside}
use Rattle.pairs.proofs.Beside.{given-beside}
use Rattle.pairs.proofs.Search.{side_at, nothing-found}
use Rattle.pairs.proofs.Numbers.{same-screened}
use Rattle.filter.proofs.first_suspect.Goals as goal

-- without a balance rule 4 has none
no-figures : {rule : PairRule} {n : ℕ} (r : Record) → rule ≡ Fourth → n ≡ 0 → figures_of (rule_number rule) n r ≡ 0
no-figures r e z = rw (e, z) (none (is_receiver (node_of r)))
  where
    none : (b : Bool) → ◌≡◌ {A = ℕ} (cond b 0 0) 0
    none true = refl
    none false = refl

pub returns-then-unweighed : goal.returns-then-unweighed
returns-then-unweighed c =
    let w = c.args.w.now in
    let S = beside w c.args.rows.now in
    let rule = c.from-rule.result in
    let four : rule ≡ Fourth = same_true the_type (search rules) _ _ (sym c.if-eq.ensures) in (
      omega arith,
      same-screened (rule_number rule) _ c.from-rule.ensures _ _ _
          (λ i h. nothing-found (rule_number rule) {p = side_at S i} (given-beside w c.args.rows.now c.told-rows) record { below = h; is = refl }
          (no-figures _ four c.if-unweighed.true)),
    )

pub returns-then-from-w : goal.returns-then-from-w
returns-then-from-w c = (c.ask-from.ensures.0, same-screened _ _ c.from-rule.ensures _ _ _ c.ask-from.ensures.1)

pub returns : goal.returns
returns c = (c.ask.ensures.0, same-screened _ _ c.from-rule.ensures _ _ _ c.ask.ensures.1)
