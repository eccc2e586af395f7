-- What later crates may take from a file that was read, and nothing else: the trailer fits the file, each record has the shape of its
-- kind, and the array that the bytes stand for is well formed. From `formed` the model's laws give the rest: children above parents
-- and below M (Tree.child-above), one parent for each node but 0 (Reach.parent, Reach.one-parent), each node once in a tree (Bounds.once),
-- names below N (Tree.names-below), uses within reach (Closed.use-reach), no free name at the root (Closed.closed).
use Prim.Native.Nat.{ℕ, ◌+◌, ◌*◌, ◌≤◌, ◌<◌}
use mathlib.Core.Path.{◌≡◌, refl, ap, ap₂, ◌∙◌, subst}
use mathlib.Core.Bool.{true, ◌&&◌}
use mathlib.Core.List.{List}
use lib.Dec.{leb}
use lib.ListN.{length}
use borrow.Author.Tests.{leb-true, eqb-true}
use Rattle.laws.specs.Search.{Found, clear, hit}
use Rattle.laws.proofs.Search.{and_split, test-clear, first-clear, and_then-split}
use Rattle.model.specs.Formed as F
use Rattle.records.specs.declared.Trailer.{Trailer}
use Rattle.std.specs.Prelude.{Result, Ok, Err}
use Rattle.records.specs.declared.Refusal.{Refusal}
use Rattle.records.specs.Record.{kind_number, record_of, found_of}
use Rattle.fields.specs.Fields.{shape_fits, refusal6}
use Rattle.arrays.specs.File.{trailer_of, array_length_fits, array_counts_fit, start_fits, refusal_by, array_refusal, trailer_answer, read_array, IsRead}

-- ---- what the tests of the trailer say

pub length-fits : (s : List ℕ) → array_length_fits s ≡ true → 16 ≤ length s
length-fits s e = leb-true _ _ (and_split (leb 16 (length s)) _ (and_split (leb 16 (length s) && leb (length s) 17424) _ e).0).0

pub counts-fit : (t : Trailer) → array_counts_fit t ≡ true → (1 ≤ t.nodes) × (t.nodes ≤ 1024) × (t.names ≤ 256)
counts-fit t e =
    let c = and_split (leb 1 t.nodes && leb t.nodes 1024) (leb t.names 256) e in
    let n = and_split (leb 1 t.nodes) (leb t.nodes 1024) c.0 in
    (leb-true _ _ n.0, leb-true _ _ n.1, leb-true _ _ c.1)

pub start_fits_lem : (s : List ℕ) (t : Trailer) → start_fits s t ≡ true → (t.start ≤ 1024) × (t.start + 16 * t.nodes + 16 ≡ length s)
start_fits_lem s t e = let c = and_split (leb t.start 1024) _ e in (leb-true _ _ c.0, eqb-true _ _ c.1)

-- the answer, once all has been checked
pub answered-by : (s : List ℕ) (t : Trailer) (x : Result (Unit {0}) Refusal) → t ≡ trailer_of s → found_of x ≡ refusal_by s t
    → trailer_answer (found_of x) t ≡ read_array s
unfolding read_array
answered-by s t x e found = ap₂ trailer_answer (found ∙ ap (refusal_by s) e) e

-- ---- a file that was read

-- what an answer says of the search
pub answered : (f : Found F.Refusal) (t u : Trailer) → trailer_answer f t ≡ Ok u → (f ≡ clear) × (t ≡ u)
answered clear t u e = (refl, cc)
answered (hit r) t u e = (cc, cc)

pub denied : (f : Found F.Refusal) (t : Trailer) (r : F.Refusal) → trailer_answer f t ≡ Err r → f ≡ hit r
denied clear t r e = cc
denied (hit q) t r e = cc

pub read-passes : (s : List ℕ) (t : Trailer) → read_array s ≡ Ok t → (array_refusal s ≡ clear) × (trailer_of s ≡ t)
unfolding read_array
read-passes s t e = answered (array_refusal s) (trailer_of s) t e

pub read-refuses : (s : List ℕ) (r : F.Refusal) → read_array s ≡ Err r → array_refusal s ≡ hit r
unfolding read_array
read-refuses s r e = denied (array_refusal s) (trailer_of s) r e

module _ (s : List ℕ) (passed : array_refusal s ≡ clear) where
  passed-read : IsRead s (trailer_of s)
  passed-read =
      let s₁ = and_then-split _ _ passed in
      let s₂ = and_then-split _ _ s₁.1 in
      let s₃ = and_then-split _ _ s₂.1 in
      let s₄ = and_then-split _ _ s₃.1 in
      let s₅ = and_then-split _ _ s₄.1 in
      let s₆ = and_then-split _ _ s₅.1 in
      let s₇ = and_then-split _ _ s₆.1 in
      let s₈ = and_then-split _ _ s₇.1 in
      let s₉ = and_then-split _ _ s₈.1 in
      let s₁₀ = and_then-split _ _ s₉.1 in
      let s₁₁ = and_then-split _ _ s₁₀.1 in
      let counts = counts-fit (trailer_of s) (test-clear _ _ s₃.0) in
      let place = start_fits_lem s (trailer_of s) (test-clear _ _ s₄.0) in
      record {
        trailer = refl;
        start = place.0;
        fills = place.1;
        sum = eqb-true _ _ (test-clear _ _ s₅.0);
        shapes = s₆.0;
        unused = s₇.0;
        formed = record {
          some = counts.0;
          few_nodes = counts.1;
          few_names = counts.2;
          children = s₈.0;
          parents = s₉.0;
          named = s₁₀.0;
          bound = s₁₁.0;
          scoped = s₁₁.1;
        };
      }

pub read_is : (s : List ℕ) (t : Trailer) → read_array s ≡ Ok t → IsRead s t
read_is s t e = let a = read-passes s t e in subst (IsRead s) a.1 (passed-read s a.0)

-- a record of a file that was read has an arity up to 8
module _ (s : List ℕ) (t : Trailer) (r : IsRead s t) (i : ℕ) (h : i < t.nodes) where
  shape : shape_fits (record_of s t i) ≡ true
  unfolding refusal6
  shape = test-clear _ _ (first-clear t.nodes _ r.shapes i h)

  abbrev k : ℕ
  k = kind_number (record_of s t i).kind

  abbrev n : ℕ
  n = (record_of s t i).arity

  pub arity-small : (record_of s t i).arity ≤ 8
  arity-small = leb-true _ _ (and_split (leb k 6) _ (and_split (leb k 6 && leb n 8) _ shape).0).1
