-- The rules by the checker's own lists are the model's, and over lists that stand for the table of two files they are the rules of that table.
use Prim.Native.Nat.{ℕ, ◌+◌, ◌<◌}
use native.Mathlib.Omega.{arith}
use mathlib.Core.Path.{◌≡◌, refl, sym, ap, ◌∙◌}
use mathlib.Core.Bool.{Bool, true, false}
use mathlib.Core.List.{List, [], ◌∷◌}
use lib.Dec.{leb}
use lib.ListN.{get_or}
use borrow.Author.Tests.{ltb-true, lt-ltb}
use Rattle.std.specs.Prelude.{Result, Err}
use Rattle.std.specs.Result.{IsErrAnd}
use Rattle.std.proofs.lemmas.Result.{err_from_is_err_and}
use Rattle.laws.specs.Search.{clear, hit, test, and_then}
use Rattle.laws.proofs.Search.{implies, implied, same_test, clear-test, hit-test, first-pass, first-here, first-same, every_true, true-every}
use Rattle.laws.proofs.Search.{clear-and_then, hit-and_then}
use Rattle.wire.proofs.Laws.{u16-small}
use Rattle.model.specs.Tree.{Array}
use Rattle.model.specs.Formed.{WellFormed}
use Rattle.model.specs.Same.{Alike}
use Rattle.model.specs.Rules.{Table, together, Named, SetsAgree, Verdict, at, check1, check2, arguments3, check3, balances4, check4, check5, verdict}
use Rattle.model.proofs.Tree.{agent-inside}
use Rattle.model.proofs.Sets.{met-each, each-met}
use Rattle.model.proofs.Alike.{check3-alike, check4-alike, verdict-alike}
use Rattle.records.specs.declared.Trailer.{Trailer}
use Rattle.records.specs.Record.{array_of}
use Rattle.layout.specs.declared.Sizes.{Sizes}
use Rattle.layout.specs.Table.{table_of, IsTable}
use Rattle.layout.proofs.Laws.{claims-lie}
use Rattle.claims.proofs.Laws.{claims-named, sets-agree, claims-rise}
use Rattle.pairs.specs.declared.Weighing.{Weighing}
use Rattle.pairs.specs.Pairs.{list_table, at_pair, pairs_of}
use Rattle.pairs.specs.Weighing.{array_weighed, table_beside}
use Rattle.lists.specs.Listed.{Listed}
use Rattle.rules.specs.declared.Broken.{Broken}
use Rattle.rules.specs.Ruling.{broken_of, ruled, rule_below, own_marked, root_fits, claim_holds, set_holds, ClaimsListed, AllListed, claimed}

-- ---- a loop passes place k, or stops there

module _ (r : ℕ) (p : ℕ → Bool) (k : ℕ) (e : rule_below k r p ≡ clear) where
  pub rule-passes : p k ≡ true → rule_below (k + 1) r p ≡ clear
  rule-passes h = first-pass _ k e (clear-test _ _ h)

  pub rule-stops : (n : ℕ) → k < n → p k ≡ false → rule_below n r p ≡ hit (at r (k ∷ []))
  rule-stops n l h = first-here _ k n _ e (hit-test _ _ h) l

-- ---- one rule after another

-- a rule that is broken ends the search, as the answer that is handed on; one that is kept lets it go on
pub ends : {f : Verdict} (g : Verdict) (b : Broken) (r : Result (Unit {0}) Broken) → ruled (Err b) ≡ f → IsErrAnd r (λ y. y ≡ b) → ruled r ≡ and_then f g
ends {f} g b r e handed =
    let p = err_from_is_err_and r handed in
    rw (p.1, p.2) (sym (hit-and_then f g (broken_of b) (sym e)))

pub goes_on : {f : Verdict} (g : Verdict) {y : Verdict} → clear ≡ f → y ≡ g → y ≡ and_then f g
goes_on {f} g e q = q ∙ sym (clear-and_then f g (sym e))

-- ---- rules 3 and 4 are the searches over pairs

pub pairs-three : (a : Array) (t : Table) → pairs_of 3 a t ≡ check3 a t
unfolding check3 arguments3 at_pair
pairs-three a t = refl

pub pairs-four : (a : Array) (t : Table) → pairs_of 4 a t ≡ check4 a t
unfolding check4 balances4 at_pair
pairs-four a t = refl

-- ---- over the table that the lists and the claims of the file stand for

module _ (w : Weighing) (rows s : List ℕ) (z : Sizes) where
  abbrev a : Array
  a = array_weighed w

  abbrev L : Table
  L = table_beside w rows

  abbrev C : Table
  C = claimed L s z

  -- rows and balances are the lists'
  same : Alike a L C
  same = record { rows = λ v o h l. refl; many = refl; bounds = λ k h. refl; weights = λ k i h e. refl }

  pub rule-one : rule_below w.array.trailer.names 1 (own_marked a rows) ≡ check1 a C
  unfolding check1
  rule-one = refl

  pub rule-two : rule_below w.balances 2 (root_fits w.loads.now w.bounds.now) ≡ check2 a C
  unfolding check2
  rule-two =
      first-same w.balances _ _ (λ k h.
      ap (λ (x : ℕ). test (leb x (get_or w.bounds.now k 0)) (at 2 (k ∷ []))) (w.is_weighed.weighed.weighs 0 k w.is_weighed.read.formed.some h))

  pub rule-three : pairs_of 3 a L ≡ check3 a C
  rule-three = pairs-three a L ∙ check3-alike a w.is_weighed.read.formed L C same

  pub rule-four : pairs_of 4 a L ≡ check4 a C
  rule-four = pairs-four a L ∙ check4-alike a w.is_weighed.read.formed L C same

  -- a set is met where each of its claims holds alone
  pub rule-five : SetsAgree (table_of s z)
      → rule_below z.claims 5 (set_holds (table_of s z) (λ e. claim_holds w.loads.now w.bounds.now ((table_of s z).claim e))) ≡ check5 a C
  unfolding check5 together
  rule-five sets =
      let agree : SetsAgree C = sets in
      first-same z.claims _ _ (λ c h.
      ap (λ (b : Bool). test b (at 5 (c ∷ [])))
      (same_test _ _
      (λ e. lt-ltb _ _ (each-met C agree c h (λ d k g. ltb-true _ _ (implies _ _ (every_true z.claims _ e d k) g))))
      (λ e. true-every z.claims _ (λ d k. implied _ _ (λ g. lt-ltb _ _ (met-each C agree c h (ltb-true _ _ e) d k g))))))

  -- the verdict is what the next rule starts, where those before it are kept
  module _ {y : Verdict} (one : clear ≡ rule_below w.array.trailer.names 1 (own_marked a rows)) where
    pub past-one : y ≡ and_then (check2 a C) (and_then (check3 a C) (and_then (check4 a C) (check5 a C))) → y ≡ verdict a C
    unfolding verdict
    past-one = goes_on _ (one ∙ rule-one)

    module _ (two : clear ≡ rule_below w.balances 2 (root_fits w.loads.now w.bounds.now)) where
      pub past-two : y ≡ and_then (check3 a C) (and_then (check4 a C) (check5 a C)) → y ≡ verdict a C
      past-two q = past-one (goes_on _ (two ∙ rule-two) q)

      module _ (three : clear ≡ pairs_of 3 a L) where
        pub past-three : y ≡ and_then (check4 a C) (check5 a C) → y ≡ verdict a C
        past-three q = past-two (goes_on _ (three ∙ rule-three) q)

        pub past-four : clear ≡ pairs_of 4 a L → y ≡ check5 a C → y ≡ verdict a C
        past-four four q = past-three (goes_on _ (four ∙ rule-four) q)

-- ---- the lists of two files that were read

module _ (f : List ℕ) (t : Trailer) (s : List ℕ) (z : Sizes) (table : IsTable f t s z) (bytes : (i : ℕ) → get_or s i 0 < 256)
    (rows loads bounds : List ℕ) (listed : Listed f t s z rows loads bounds) where
  abbrev b : Array
  b = array_of f t

  abbrev T : Table
  T = table_of s z

  ok : WellFormed b
  ok = listed.given.read.formed

  -- a claim names an agent and a balance
  named : Named b T
  named = claims-named b T table.claims

  claims : ClaimsListed s z loads bounds
  claims =
      let l = table.laid in
      record {
        lie = claims-lie t s z ok.few_nodes ok.few_names l;
        listed = λ c h.
            let n = named c h in
            record {
              bound = omega (arith, n.1, l.few_balances, listed.given.lists.many_bounds);
              weight = listed.given.weighed.half _ (agent-inside b _ n.0) _ n.1;
              most = u16-small s bytes _;
            };
        rise = claims-rise T table.order;
      }

  pub filled : AllListed s z loads bounds
  filled = record { claims = claims; sets = sets-agree T table.sets }

  -- the verdict over the lists is that over the table of the bytes
  pub judged : verdict b (claimed (list_table rows loads bounds z.balances) s z) ≡ verdict b T
  judged =
      let e = listed.same in
      verdict-alike b ok _ T record { rows = e.rows; many = e.many; bounds = e.bounds; weights = e.weights } refl (λ c h. refl) named
