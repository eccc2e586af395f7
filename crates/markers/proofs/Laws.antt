-- Entries read and written, the place of an entry among the first ones, and marks of places.
use Prim.Native.Nat.{ℕ, zero, suc, ◌+◌, ◌*◌, ◌-◌, ◌<◌, ◌≤◌, suc-le-suc, zero-le}
use native.Mathlib.Nat.{not-suc-le-zero, le_of_suc-le-suc, eq-or-lt_of_le, add-zero}
use native.Mathlib.Omega.{arith}
use mathlib.Core.Path.{◌≡◌, refl, sym, ap, ap₂, ◌∙◌}
use mathlib.Core.Logic.{◌⊎◌, inl, inr, ⊎_elim}
use mathlib.Core.Bool.{Bool, true, false, cond, not, ◌&&◌, and_assoc, true≢false}
use mathlib.Core.List.{List, [], ◌∷◌}
use lib.Dec.{eqb, ltb}
use Rattle.std.specs.Prelude.{Option, None, Some, MatchOption, is_some}
use lib.ListN.{length, get_or, take, drop}
use lib.Seq.{get_or-take, drop-drop}
use borrow.Rule.Slice.PartMut.{put_mid}
use Rattle.std.specs.List.{list_all, range_with_len}
use Rattle.laws.specs.Lists.{put}
use Rattle.laws.specs.Search.{every}
use borrow.Author.Tests.{lt-ltb, le-ltb, eq-eqb}
use Rattle.laws.proofs.Search.{decided, or_left, or_right, every-same, every-cons, every-not, any-true, any_false}
use Rattle.marks.specs.Marks.{marked, mark_if}
use Rattle.marks.proofs.Laws.{marked-set}
use Rattle.model.specs.Numbers.{Entry, no_entry, same_entry, position}
use Rattle.model.specs.Memory.{entry_in, entries_in, unlike}
use Rattle.model.proofs.Markers.{entry-eq}
use Rattle.model.proofs.Memory.{length-entries, entries_at}
use Rattle.markers.specs.Markers.{slot_of, Seen, listed}

-- ---- one entry read and written

-- an entry of the first four words
pub entry-front : (l xs : List ℕ) → xs ≡ take 4 l
    → record { resource = get_or xs 0 0; out = get_or xs 1 0; left = get_or xs 2 0; right = get_or xs 3 0 } ≡ entry_in l
unfolding entry_in
entry-front l xs e =
    rw e (simp (get_or-take 4 l 0 0 (omega arith), get_or-take 4 l 1 0 (omega arith), get_or-take 4 l 2 0 (omega arith), get_or-take 4 l 3 0 (omega arith)))

-- words written in place of a part of the list
pub put-part : (at end : ℕ) (l : List ℕ) {new xs : List ℕ} → end ≡ at + length xs → new ≡ xs → put_mid at (end - at) l new ≡ put at xs l
unfolding put
put-part at end l {new} {xs} e h =
    let n : end - at ≡ length xs = omega arith in
    rw (h, n, drop-drop)

-- equality by its four tests, as the derived one makes them
pub same_derived : (d e : Entry) → same_entry d e ≡ eqb d.resource e.resource && (eqb d.out e.out && (eqb d.left e.left && eqb d.right e.right))
unfolding same_entry
same_derived d e =
    let r = eqb d.resource e.resource in
    let o = eqb d.out e.out in
    let m = eqb d.left e.left in
    let n = eqb d.right e.right in
    and_assoc (r && o) m n ∙ and_assoc r o (m && n)

-- a test of all numbers of a range
every-range : (f : ℕ → Bool) (a n : ℕ) → list_all f (range_with_len a n) ≡ every n (λ k. f (a + k))
unfolding every
every-range f a zero = refl
every-range f a (suc n) =
    ap₂ ◌&&◌ (ap f (sym (add-zero a)))
    (every-range f (a + 1) n ∙ every-same n _ (λ k. f (a + suc k)) (λ k h. let e : a + 1 + k ≡ a + suc k = omega arith in ap f e))
    ∙ sym (every-cons n (λ k. f (a + k)))

pub every-below : (f : ℕ → Bool) (n : ℕ) → list_all f (range_with_len 0 n) ≡ every n f
every-below f n = every-range f 0 n ∙ every-same n _ f (λ k h. let e : 0 + k ≡ k = omega arith in ap f e)

-- ---- the place of an entry

module _ (e : Entry) where
  -- it is the first number at which an equal entry stands, or the one past the list
  position_here : (es : List Entry) (k : ℕ) → k < length es → ((j : ℕ) → j < k → same_entry (get_or es j no_entry) e ≡ false)
      → same_entry (get_or es k no_entry) e ≡ true → position e es ≡ k
  unfolding position
  position_here [] k l other h = absurd (not-suc-le-zero l)
  position_here (d ∷ es) zero l other h = rw h
  position_here (d ∷ es) (suc k) l other h =
      let q : same_entry d e ≡ false = other 0 (omega arith) in
      rw q (ap suc (position_here es k (le_of_suc-le-suc l) (λ j m. other (suc j) (suc-le-suc m)) h))

  position-none : (es : List Entry) → ((j : ℕ) → j < length es → same_entry (get_or es j no_entry) e ≡ false) → position e es ≡ length es
  unfolding position
  position-none [] other = refl
  position-none (d ∷ es) other =
      let q : same_entry d e ≡ false = other 0 (omega arith) in
      rw q (ap suc (position-none es (λ j m. other (suc j) (suc-le-suc m))))

  position-before : (es : List Entry) (k : ℕ) → k < length es → same_entry (get_or es k no_entry) e ≡ true → position e es < length es
  unfolding position
  position-before [] k l h = absurd (not-suc-le-zero l)
  position-before (d ∷ es) zero l h = rw h (omega arith)
  position-before (d ∷ es) (suc k) l h = go (same_entry d e) (position-before es k (le_of_suc-le-suc l) h)
    where
      go : (b : Bool) → position e es < length es → cond b 0 (suc (position e es)) < suc (length es)
      go true m = omega arith
      go false m = suc-le-suc m

module _ (l : List ℕ) (e : Entry) (n : ℕ) where
  -- entry j equals e
  abbrev same_at : ℕ → Bool
  same_at j = same_entry (entry_in (drop (4 * j) l)) e

  as-listed : (k : ℕ) → k ≤ n → ((j : ℕ) → j < k → same_at j ≡ false) → (j : ℕ) → j < k → same_entry (get_or (entries_in n l) j no_entry) e ≡ false
  as-listed k h f j m = let q : j < n = omega arith in rw (entries_at j n l q) (f j m)

  found_none : ((j : ℕ) → j < n → same_at j ≡ false) → position e (entries_in n l) ≡ n
  found_none f =
      position-none e (entries_in n l) (λ j m. as-listed n (omega arith) f j (rw (length-entries n l) at m)) ∙ length-entries n l

  -- the entry that a search from the front finds
  pub found : (r : Option ℕ)
      → MatchOption r ((j : ℕ) → 0 ≤ j → j < n → same_at j ≡ false)
      (λ k. (0 ≤ k) × (k < n) × (same_at k ≡ true) × ((j : ℕ) → 0 ≤ j → j < k → same_at j ≡ false))
      → MatchOption r (position e (entries_in n l) ≡ n) (λ k. (k < n) × (position e (entries_in n l) ≡ k))
  found None f = found_none (λ j. f j zero-le)
  found (Some k) f = (
    f.1,
    position_here e (entries_in n l) k (rw (length-entries n l) f.1) (as-listed k (omega arith) (λ j. f.3 j zero-le)) (rw (entries_at k n l f.1) f.2),
  )

  listed_found : ltb (position e (entries_in n l)) n ≡ listed l n e
  unfolding listed
  listed_found = go (decided (listed l n e))
    where
      go : (listed l n e ≡ true) ⊎ (listed l n e ≡ false) → ltb (position e (entries_in n l)) n ≡ listed l n e
      go (inl q) =
          let s = any-true n _ q in
          let here : same_entry (get_or (entries_in n l) s.0 no_entry) e ≡ true = rw (entries_at s.0 n l s.1) s.2 in
          let m : s.0 < length (entries_in n l) = rw (length-entries n l) s.1 in
          let p = position-before e (entries_in n l) s.0 m here in
          rw q (lt-ltb _ n (rw (length-entries n l) at p))
      go (inr q) = rw (q, found_none (any_false n _ q)) (le-ltb n n (omega arith))

  -- e is listed where it is found
  pub listed_told : (r : Option ℕ) → MatchOption r (position e (entries_in n l) ≡ n) (λ k. (k < n) × (position e (entries_in n l) ≡ k)) → is_some r ≡ listed l n e
  listed_told None h = sym (ap (λ (k : ℕ). ltb k n) h ∙ le-ltb n n (omega arith)) ∙ listed_found
  listed_told (Some k) h = sym (ap (λ (j : ℕ). ltb j n) h.1 ∙ lt-ltb k n h.0) ∙ listed_found

-- ---- marks of places

module _ (seen l : List ℕ) (k : ℕ) (marks : Seen seen l k) where
  -- equal entries have equal places, so where a place has no mark no entry equals one of that place
  pub unseen : (e : Entry) → marked seen 0 (slot_of e) ≡ false → listed l k e ≡ false
  unfolding listed
  unseen e h = go (decided (listed l k e))
    where
      go : (listed l k e ≡ true) ⊎ (listed l k e ≡ false) → listed l k e ≡ false
      go (inl q) =
          let s = any-true k _ q in
          absurd (true≢false (sym (marks s.0 s.1) ∙ ap (λ (d : Entry). marked seen 0 (slot_of d)) (entry-eq _ e s.2) ∙ h))
      go (inr q) = q

  pub seen_more : (slot : ℕ) → length seen ≡ 4096 → slot < 262144 → slot ≡ slot_of (entry_in (drop (4 * k) l)) → Seen (mark_if seen true slot) l (k + 1)
  seen_more slot size few e j h =
      let u = slot_of (entry_in (drop (4 * j) l)) in
      marked-set seen slot u (omega arith)
      ∙ ⊎_elim
      (λ (q : j ≡ k). or_right (marked seen 0 u) (eqb u slot) (eq-eqb u slot (ap (λ (m : ℕ). slot_of (entry_in (drop (4 * m) l))) q ∙ sym e)))
      (λ (m : j < k). or_left (marked seen 0 u) (eqb u slot) (marks j m))
      (eq-or-lt_of_le (omega arith))

-- "no two entries are equal", by the words
pub unlike-listed : (l : List ℕ) (k n : ℕ) → k < n → unlike (entries_in n l) k ≡ not (listed l k (entry_in (drop (4 * k) l)))
unfolding unlike listed
unlike-listed l k n h =
    every-same k _ (λ j. not (same_entry (entry_in (drop (4 * j) l)) (entry_in (drop (4 * k) l))))
    (λ j m. ap₂ (λ (d e : Entry). not (same_entry d e)) (entries_at j n l (omega arith)) (entries_at k n l h))
    ∙ every-not k (λ j. same_entry (entry_in (drop (4 * j) l)) (entry_in (drop (4 * k) l)))
