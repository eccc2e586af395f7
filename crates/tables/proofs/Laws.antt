-- What the tests of a table's trailer say, and that a table that was read is one.
use Prim.Native.Nat.{ℕ, ◌+◌, ◌-◌, ◌/◌, ◌≤◌}
use mathlib.Core.Path.{◌≡◌, refl, sym, ap, ap₂, ◌∙◌}
use mathlib.Core.Bool.{true, ◌&&◌}
use mathlib.Core.List.{List}
use lib.Dec.{eqb, leb}
use lib.ListN.{length}
use borrow.Author.Tests.{leb-true, eqb-true}
use Rattle.laws.specs.Search.{Found, clear}
use Rattle.laws.proofs.Search.{and_split, test-clear, and_then-split, clear-and_then, hit-and_then}
use Rattle.wire.specs.Numbers.{u32_at, word_sum}
use Rattle.model.specs.Formed as F
use Rattle.records.specs.declared.Trailer.{Trailer}
use Rattle.std.specs.Prelude.{Ok, Err}
use Rattle.records.specs.Record.{array_of}
use Rattle.arrays.specs.File.{trailer_of, array_refusal, read_array}
use Rattle.arrays.proofs.Laws.{read-passes, read-refuses}
use Rattle.layout.specs.declared.Sizes.{Sizes}
use Rattle.layout.specs.Table.{claim_at, sizes_of, table_of, table_length_fits, table_counts_fit, starts_fit, parts_fit, IsTable}
use Rattle.layout.specs.Table.{refusal14, refusal19, refusal20, refusal21, refusal30, refusal31}
use Rattle.tables.specs.Read.{table_refusal, sizes_answer, read_table}

pub length-fits : (s : List ℕ) → table_length_fits s ≡ true → 28 ≤ length s
length-fits s e = leb-true _ _ (and_split (leb 28 (length s)) _ (and_split (leb 28 (length s) && leb (length s) 59516) _ e).0).0

pub counts-fit : (z : Sizes) → table_counts_fit z ≡ true → (z.balances ≤ 24) × (z.claims ≤ 256)
counts-fit z e = let c = and_split (leb z.balances 24) (leb z.claims 256) e in (leb-true _ _ c.0, leb-true _ _ c.1)

pub parts-fill : (s : List ℕ) (z : Sizes) → parts_fit s z ≡ true → claim_at z z.claims + 28 ≡ length s
unfolding parts_fit
parts-fill s z e = eqb-true _ _ (and_split (starts_fit s z) (eqb (claim_at z z.claims + 28) (length s)) e).1

-- ---- a table that was read

-- refusals 13 to 21, 30 and 31 found nothing
pub record Passed (f : List ℕ) (t : Trailer) (s : List ℕ) : Type 0 where
  pub letters : refusal14 (sizes_of t s) ≡ clear
  pub counts : table_counts_fit (sizes_of t s) ≡ true
  pub parts : parts_fit s (sizes_of t s) ≡ true
  pub sum : u32_at s (length s - 8) ≡ word_sum s ((length s - 8) / 4)
  pub named : u32_at s (length s - 12) ≡ t.sum
  pub rows : refusal19 (array_of f t) s (sizes_of t s) ≡ clear
  pub weights : refusal20 (array_of f t) s (sizes_of t s) ≡ clear
  pub claims : refusal21 (array_of f t) (table_of s (sizes_of t s)) ≡ clear
  pub sets : refusal30 (table_of s (sizes_of t s)) ≡ clear
  pub order : refusal31 (table_of s (sizes_of t s)) ≡ clear

pub passed : (f : List ℕ) (t : Trailer) (s : List ℕ) → table_refusal f t s ≡ clear → Passed f t s
passed f t s e =
    let s₁ = and_then-split _ _ e in
    let s₂ = and_then-split _ _ s₁.1 in
    let s₃ = and_then-split _ _ s₂.1 in
    let s₄ = and_then-split _ _ s₃.1 in
    let s₅ = and_then-split _ _ s₄.1 in
    let s₆ = and_then-split _ _ s₅.1 in
    let s₇ = and_then-split _ _ s₆.1 in
    let s₈ = and_then-split _ _ s₇.1 in
    let s₉ = and_then-split _ _ s₈.1 in
    let s₁₀ = and_then-split _ _ s₉.1 in
    record {
      letters = s₂.0;
      counts = test-clear _ _ s₃.0;
      parts = test-clear _ _ s₄.0;
      sum = eqb-true _ _ (test-clear _ _ s₅.0);
      named = eqb-true _ _ (test-clear _ _ s₆.0);
      rows = s₇.0;
      weights = s₈.0;
      claims = s₉.0;
      sets = s₁₀.0;
      order = s₁₀.1;
    }

pub passed-table : (f : List ℕ) (t : Trailer) (s : List ℕ) → table_refusal f t s ≡ clear → IsTable f t s (sizes_of t s)
passed-table f t s e =
    let p = passed f t s e in
    let counts = counts-fit (sizes_of t s) p.counts in
    record {
      laid = record {
        nodes = refl;
        names = refl;
        few_balances = counts.0;
        few_claims = counts.1;
        fills = parts-fill s (sizes_of t s) p.parts;
      };
      rows = p.rows;
      weights = p.weights;
      claims = p.claims;
      sets = p.sets;
      order = p.order;
    }

-- ---- the answer, by the array's and the table's

module _ (f s : List ℕ) where
  pub array-refused : (r : F.Refusal) → read_array f ≡ Err r → Err r ≡ read_table f s
  unfolding read_table
  array-refused r e =
      ap (λ x. sizes_answer x (sizes_of (trailer_of f) s))
      (sym (hit-and_then (array_refusal f) (table_refusal f (trailer_of f) s) _ (read-refuses f r e)))

  pub array-read : (t : Trailer) (x : Found F.Refusal) (z : Sizes) → read_array f ≡ Ok t → x ≡ table_refusal f t s → z ≡ sizes_of t s
      → sizes_answer x z ≡ read_table f s
  unfolding read_table
  array-read t x z e found size =
      let p = read-passes f t e in
      ap₂ sizes_answer
      (found ∙ ap (λ u. table_refusal f u s) (sym p.1) ∙ sym (clear-and_then (array_refusal f) (table_refusal f (trailer_of f) s) p.0))
      (size ∙ ap (λ u. sizes_of u s) (sym p.1))
