-- The rows in the end are the smallest that mend the table of the files, and so those of the model's rounds.
use Prim.Native.Nat.{ℕ, ◌<◌}
use native.Mathlib.Omega.{arith}
use mathlib.Core.Path.{◌≡◌, refl, sym, ap, ◌∙◌, subst}
use mathlib.Core.Logic.{inl, inr}
use mathlib.Core.Bool.{true, not, ◌&&◌, ◌||◌, true≢false}
use mathlib.Core.List.{List}
use lib.Dec.{eqb, ltb}
use borrow.Author.Tests.{eqb-true, eq-eqb, ltb-true, lt-ltb, not-true}
use Rattle.laws.specs.Search.{sum}
use Rattle.laws.specs.Lists.{one}
use Rattle.laws.proofs.Search.{decided, and_split, and-join, or_split, or_left, or_right}
use Rattle.marks.specs.Marks.{marked}
use Rattle.model.specs.Tree.{Array, is_new}
use Rattle.model.specs.Formed.{WellFormed}
use Rattle.model.specs.Rules.{Table}
use Rattle.model.specs.Mend.{Rows, with_rows, Mends, Smallest, mended, bits_set}
use Rattle.model.proofs.Verdict.{live_more}
use Rattle.model.proofs.Alike.{known}
use Rattle.model.proofs.Mend.{mended-smallest, smallest-same, smallest-alike, bits-same}
use Rattle.records.specs.declared.Trailer.{Trailer}
use Rattle.records.specs.Record.{array_of}
use Rattle.layout.specs.declared.Sizes.{Sizes}
use Rattle.layout.specs.Table.{row_bit, table_of}
use Rattle.flows.specs.Written.{rewritten}
use Rattle.flows.proofs.RowBytes.{rewritten-same}
use Rattle.pairs.specs.Pairs.{setting, list_table}
use Rattle.lists.specs.Listed.{Listed}
use Rattle.mending.specs.Growing.{Below, RuleThree, Finished, OwnMarked}

module _ {f : List ℕ} {t : Trailer} {s : List ℕ} {z : Sizes} {rows loads bounds : List ℕ} (listed : Listed f t s z rows loads bounds)
    {own last : List ℕ} (marks : OwnMarked (array_of f t) t.names rows own)
    (done : Finished (setting f t z.balances own loads bounds) last) where
  abbrev a : Array
  a = array_of f t

  ok : WellFormed a
  ok = listed.given.read.formed

  abbrev L : Table
  L = list_table rows loads bounds z.balances

  abbrev T : Table
  T = table_of s z

  -- ---- the rows mend the lists' table

  kept : (v o : ℕ) → o < 256 → marked rows v o ≡ true → marked last v o ≡ true
  kept v o h e = done.more v o h (marks.is v o h ∙ or_left _ _ e)

  owned : (o : ℕ) → o < t.names → is_new a o ≡ true → marked last o o ≡ true
  owned o h new =
      let few = ok.few_names in
      done.more o o (omega arith)
      (marks.is o o (omega arith) ∙ or_right (marked rows o o) _ (and-join (lt-ltb o t.names h) (and-join (eq-eqb o o refl) new)))

  mends : Mends a L (marked last)
  mends = record { contains = λ v h o l. kept v o l; rule1 = λ o h new. owned o h new; rule3 = done.rule3 }

  -- ---- and every choice contains them

  module _ (r : Rows) (m : Mends a L r) where
    -- the choice, with every mark where the array has no name
    abbrev free : Rows
    free v o = not (ltb v t.names) || r v o

    there : (v o : ℕ) → v < t.names → free v o ≡ true → r v o ≡ true
    there v o h e =
        elim (or_split (not (ltb v t.names)) (r v o) e) [
          | inl k ↦ absurd (true≢false (sym (lt-ltb v t.names h) ∙ not-true _ k))
          | inr k ↦ k
        ]

    rule : RuleThree (setting f t z.balances own loads bounds) free
    rule i hi j hj p q ep eq l n hn o ho e =
        let kp = known a ok i p ep in
        let kq = known a ok j q eq in
        or_right (not (ltb _ t.names)) _
        (m.rule3 i hi j hj p q ep eq
        (live_more (with_rows L free) (with_rows L r) (λ x b. there p.channel x kp.channel) (λ x b. there q.channel x kq.channel)
        (λ k b. (k, b, refl)) l) n hn o ho (there _ o (kq.args n) e))

    below : Below own free
    below v o h e =
        elim (decided (ltb v t.names)) [
          | inr k ↦ or_left _ _ (ap not k)
          | inl k ↦
              or_right (not (ltb v t.names)) _
              (elim (or_split (marked rows v o) (ltb v t.names && (eqb o v && is_new a v)) (sym (marks.is v o h) ∙ e)) [
                | inl x ↦ m.contains v (ltb-true v t.names k) o h x
                | inr x ↦
                    let y = and_split (eqb o v) (is_new a v) (and_split (ltb v t.names) _ x).1 in
                    subst (λ (n : ℕ). r v n ≡ true) (sym (eqb-true o v y.0)) (m.rule1 v (ltb-true v t.names k) y.1)
              ])
        ]

  smallest : Smallest a L (marked last)
  smallest = record { mends = mends; least = λ r m v h o l e. there r m v o h (done.least (free r m) (rule r m) (below r m) v o l e) }

  -- ---- so they are the mended rows of the table

  are-mended : (v o : ℕ) → v < t.names → o < 256 → marked last v o ≡ mended a T v o
  are-mended v o h l =
      smallest-same a T (marked last) (mended a T) (smallest-alike a ok L T listed.same (marked last) smallest) (mended-smallest a ok T) v h o l

  pub same-file : z.names ≡ t.names → rewritten z (marked last) s ≡ rewritten z (mended a T) s
  same-file e = rewritten-same z (marked last) (mended a T) s (λ v o h. are-mended v o (rw e at h))

  pub same_bits : z.names ≡ t.names
      → sum z.names (λ v. sum 256 (λ o. one (marked last v o && not (row_bit s z v o)))) ≡ bits_set a T.row (mended a T)
  unfolding bits_set
  same_bits e =
      ap (λ (n : ℕ). sum n (λ v. sum 256 (λ o. one (marked last v o && not (row_bit s z v o))))) e
      ∙ bits-same a T.row (marked last) T.row (mended a T) (λ v h o l. refl) (λ v h o l. are-mended v o h l)
