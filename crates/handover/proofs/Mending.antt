-- The promise of `mend` (02, request iv). What carries it: the rewritten file is alike the table with the mended rows (as-mended), so its own rows are
-- the smallest (smallest-rows) and meet rules 1 and 3 (meets).
use Prim.Native.Nat.{ℕ, ◌+◌, ◌≤◌, ◌<◌}
use native.Mathlib.Omega.{arith}
use mathlib.Core.Path.{◌≡◌, refl, sym, ap, ap₂, ◌∙◌, subst}
use mathlib.Core.Logic.{inl, inr}
use mathlib.Core.Bool.{true, false, true≢false}
use mathlib.Core.List.{List}
use lib.ListN.{length, get_or, take, drop}
use borrow.Author.Tests.{le-leb, lt-leb}
use Rattle.std.specs.Prelude.{Ok, Err}
use Rattle.laws.specs.Search.{clear, hit}
use Rattle.laws.specs.Lists.{put}
use Rattle.laws.proofs.Search.{implies, test-clear, clear-test, hit-test, and_then-split, and_then-join, clear-and_then, hit-and_then, first-clear, every_true}
use Rattle.laws.proofs.Put.{length-put, take_put, drop_past}
use Rattle.model.specs.Tree.{Array, is_new}
use Rattle.model.specs.Formed.{WellFormed}
use Rattle.model.specs.Rules.{row_bits, Each}
use Rattle.model.specs.Mend.{Rows, with_rows, Mends, Smallest, mended, bits_set}
use Rattle.model.proofs.Mend.{SameRows, contained-both, bits_none, none-bits, bits-same, mended-smallest, smallest-alike, held-smallest}
use Rattle.model.proofs.Mend.{smallest-opened, mends-rows, smallest-rows, rules-left}
use Rattle.records.specs.declared.Refusal.{Refusal}
use Rattle.records.specs.declared.Trailer.{Trailer}
use Rattle.records.specs.declared.Reason.TheVariants.{Output}
use Rattle.records.specs.Record.{told, array_of}
use Rattle.arrays.specs.File.{trailer_of, array_refusal, read_array}
use Rattle.arrays.proofs.Laws.{read-passes, read-refuses}
use Rattle.layout.specs.declared.Sizes.{Sizes}
use Rattle.layout.specs.Table.{sizes_of, table_of, refusal19}
use Rattle.flows.specs.Written.{rewritten}
use Rattle.tables.specs.Read.{table_refusal, files_refusal}
use Rattle.tables.proofs.Laws.{passed}
use Rattle.tables.proofs.Rewritten.{same_length, same-sizes, same-bound, same-weight, same-claim, as-mended, read_again, same-file}
use Rattle.handover.specs.Front.{array_in, sizes_in, table_in}
use Rattle.handover.specs.Refusals.{done, MendNumber}
use Rattle.handover.specs.Mending.{refusal32, mend_refusal, mended_rows, mended_table, mend_reply, mend_output, MendedTable, MendPromise}
use Rattle.handover.proofs.Refusals.{read-array, files-small}
use Rattle.handover.proofs.Laws.{held-exactly}

-- ---- the mended table

module _ (f s : List ℕ) (none : files_refusal f s ≡ clear) (bytes : (i : ℕ) → get_or s i 0 < 256) where
  abbrev a : Array
  a = array_in f

  abbrev r : Rows
  r = mended_rows f s

  abbrev u : List ℕ
  u = mended_table f s

  read : table_refusal f (trailer_of f) s ≡ clear
  read = (and_then-split (array_refusal f) _ none).1

  ok : WellFormed a
  ok = (read-array f (and_then-split (array_refusal f) _ none).0).formed

  small : Smallest a (table_in f s) r
  small = mended-smallest a ok (table_in f s)

  -- refusal 19 passes the given rows, so the mended ones
  old : Each a.names λ v. Each row_bits λ o. (table_in f s).row v o ≡ true → is_new a o ≡ true
  unfolding refusal19
  old v h o l = implies _ _ (every_true 256 _ (test-clear _ _ (first-clear a.names _ (passed f (trailer_of f) s read).rows v h)) o l)

  still_read : files_refusal f u ≡ clear
  still_read =
      and_then-join (array_refusal f) _ (and_then-split (array_refusal f) _ none).0
      (read_again f (trailer_of f) s read bytes r (λ v o h l. smallest-opened a (table_in f s) old r small v h o l))

  same : SameRows a r (table_in f u).row
  same v h o l = (as-mended f (trailer_of f) s read bytes r).rows v o h l

  -- the file meets rules 1 and 3
  meets : Mends a (table_in f u) (table_in f u).row
  meets =
      let given = with_rows (table_in f s) r in
      let held = held-smallest a given small.mends.rule1 small.mends.rule3 in
      let alike = as-mended f (trailer_of f) s read bytes r in
      mends-rows a ok (table_in f u) r (table_in f u).row same (smallest-alike a ok given (table_in f u) alike r held).mends

  again : (out : List ℕ) → length u ≤ length out → mend_reply f u out ≡ done 0
  unfolding mend_reply
  again out h =
      let passes : mend_refusal f u out ≡ clear = and_then-join (files_refusal f u) _ still_read (clear-test _ _ (le-leb (length u) (length out) h)) in
      rw passes
      (ap done (none-bits a (table_in f u).row (mended_rows f u) ((mended-smallest a ok (table_in f u)).least (table_in f u).row meets)))

  pub mended-table : MendedTable f s u (bits_set a (table_in f s).row r)
  mended-table =
      let t = trailer_of f in
      let z = sizes_in f s in
      let sizes = same-sizes f t s read bytes r in
      let exact = held-exactly f u still_read in
      let left = rules-left a (table_in f u) meets.rule1 meets.rule3 in
      record {
        read = still_read;
        size = same_length f t s read bytes r;
        sizes = sizes;
        bounds = λ k h.
            subst (λ (y : Sizes). ((table_of u y).balance k).bound ≡ ((table_of s z).balance k).bound) (sym sizes) (same-bound f t s read bytes r k h);
        weights = λ k h i l.
            subst (λ (y : Sizes). ((table_of u y).balance k).weight i ≡ ((table_of s z).balance k).weight i) (sym sizes)
            (same-weight f t s read bytes r k i h (omega (arith, l)));
        claims = λ c h. subst (λ (y : Sizes). (table_of u y).claim c ≡ (table_of s z).claim c) (sym sizes) (same-claim f t s read bytes r c h);
        smallest = smallest-rows a ok (table_in f s) r (table_in f u).row same small;
        counts = bits-same a (table_in f s).row r (table_in f s).row (table_in f u).row (λ v h o l. refl) same;
        copied = λ e.
            let kept = contained-both a r (table_in f s).row (bits_none a (table_in f s).row r e) small.mends.contains in
            same-file f t s read bytes r (λ v o h l. kept v h o l);
        accepted = (λ h. left.0 (exact.0 h), λ h. exact.1 (left.1 h));
        again = again;
      }

-- ---- the answer

module _ (f s out : List ℕ) where
  pub mend-refused : (r : Refusal) → mend_refusal f s out ≡ hit (told r) → MendNumber (told r).number
      → MendPromise f s out (Err r) out
  unfolding mend_reply mend_output
  mend-refused r e h = record {
    answers = sym (rw e);
    leaves = sym (rw e);
    mends = λ n q. let z : true ≡ false = cc in absurd (true≢false z);
    listed = λ n p q. let z : (told r).number ≡ n = cc in subst MendNumber z h;
    kept = λ n p q. refl;
    past = λ n q. let z : true ≡ false = cc in absurd (true≢false z);
  }

  -- one of the readers'
  files-refused : (r : Refusal) → files_refusal f s ≡ hit (told r) → MendPromise f s out (Err r) out
  files-refused r e = mend-refused r (hit-and_then (files_refusal f s) (refusal32 s out) _ e) (inl (files-small f s _ e).0)

  pub mend-array-refused : (r : Refusal) → read_array f ≡ Err (told r) → MendPromise f s out (Err r) out
  mend-array-refused r e = files-refused r (hit-and_then (array_refusal f) _ _ (read-refuses f (told r) e))

  pub mend-table-refused : (t : Trailer) (r : Refusal) → read_array f ≡ Ok t
      → hit (told r) ≡ table_refusal f t s → MendPromise f s out (Err r) out
  mend-table-refused t r e found =
      let p = read-passes f t e in
      files-refused r (clear-and_then (array_refusal f) (table_refusal f (trailer_of f) s) p.0 ∙ ap (λ u. table_refusal f u s) p.1 ∙ sym found)

  files-passed : (t : Trailer) → read_array f ≡ Ok t → table_refusal f t s ≡ clear → files_refusal f s ≡ clear
  files-passed t e none =
      let p = read-passes f t e in
      and_then-join (array_refusal f) _ p.0 (subst (λ (y : Trailer). table_refusal f y s ≡ clear) (sym p.1) none)

  pub mend-short : (t : Trailer) → read_array f ≡ Ok t → table_refusal f t s ≡ clear → length out < length s
      → MendPromise f s out (Err record { reason = Output; place = 0 }) out
  mend-short t e none h =
      mend-refused record { reason = Output; place = 0 }
      (clear-and_then (files_refusal f s) (refusal32 s out) (files-passed t e none) ∙ hit-test _ _ (lt-leb (length s) (length out) h)) (inr refl)

  module _ (none : files_refusal f s ≡ clear) (room : length s ≤ length out) (bytes : (i : ℕ) → get_or s i 0 < 256) where
    -- the mended table is what the output begins with
    front : take (length s) (put 0 (mended_table f s) out) ≡ mended_table f s
    front =
        let u = mended_table f s in
        let e : length u ≡ length s = (mended-table f s none bytes).size in
        let n : length s ≡ 0 + length u = omega arith in
        ap (λ (k : ℕ). take k (put 0 u out)) n ∙ take_put 0 u out (omega arith)

    -- what lies past it is as it was
    behind : let left = put 0 (mended_table f s) out in (length left ≡ length out) × (drop (length s) left ≡ drop (length s) out)
    behind =
        let u = mended_table f s in
        let e : length u ≡ length s = (mended-table f s none bytes).size in
        (length-put 0 u out (omega arith), drop_past 0 u out (omega arith) (length s) (omega arith))

    mend-done : let n = bits_set (array_in f) (table_in f s).row (mended_rows f s) in MendPromise f s out (Ok n) (put 0 (mended_table f s) out)
    unfolding mend_reply mend_output
    mend-done =
        let passes : mend_refusal f s out ≡ clear = and_then-join (files_refusal f s) _ none (clear-test _ _ (le-leb (length s) (length out) room)) in
        record {
          answers = sym (rw passes);
          leaves = sym (rw passes);
          mends = λ n q.
              let z : bits_set (array_in f) (table_in f s).row (mended_rows f s) ≡ n = cc in
              subst (λ (u : List ℕ). MendedTable f s u n) (sym front)
              (subst (MendedTable f s (mended_table f s)) z (mended-table f s none bytes));
          listed = λ n p q. let z : true ≡ false = cc in absurd (true≢false z);
          kept = λ n p q. let z : true ≡ false = cc in absurd (true≢false z);
          past = λ n q. behind;
        }

  pub mend-passed : (t : Trailer) (z : Sizes) (n : ℕ) (left : List ℕ) → read_array f ≡ Ok t → table_refusal f t s ≡ clear → z ≡ sizes_of t s
      → length s ≤ length out → ((i : ℕ) → get_or s i 0 < 256)
      → n ≡ bits_set (array_of f t) (table_of s z).row (mended (array_of f t) (table_of s z))
      → left ≡ put 0 (rewritten z (mended (array_of f t) (table_of s z)) s) out → MendPromise f s out (Ok n) left
  mend-passed t z n left e none size room bytes counted wrote =
      let p = sym (read-passes f t e).1 in
      let size' : z ≡ sizes_in f s = size ∙ ap (λ (y : Trailer). sizes_of y s) p in
      let bits : n ≡ bits_set (array_in f) (table_in f s).row (mended_rows f s) =
      counted ∙ ap₂ (λ (y : Trailer) (w : Sizes). bits_set (array_of f y) (table_of s w).row (mended (array_of f y) (table_of s w))) p size' in
      let file : left ≡ put 0 (mended_table f s) out =
      wrote ∙ ap₂ (λ (y : Trailer) (w : Sizes). put 0 (rewritten w (mended (array_of f y) (table_of s w)) s) out) p size' in
      subst (λ (m : ℕ). MendPromise f s out (Ok m) left) (sym bits)
      (subst (MendPromise f s out (Ok (bits_set (array_in f) (table_in f s).row (mended_rows f s)))) (sym file)
      (mend-done (files-passed t e none) room bytes))
