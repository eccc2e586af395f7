-- What a row holds after a mark, two rows word by word, and the rows of a file.
use Prim.Native.Nat.{ℕ, ◌+◌, ◌*◌, ◌/◌, ◌%◌, ◌^◌, ◌≤◌, ◌<◌}
use native.Mathlib.Nat.{zero-add}
use native.Mathlib.Omega.{arith}
use mathlib.Core.Path.{◌≡◌, refl, sym, ap, ap₂, ◌∙◌}
use mathlib.Core.Logic.{◌⊎◌, inl, inr, ⊎_elim}
use mathlib.Core.Bool.{Bool, true, false, cond, not, ◌&&◌, ◌||◌, and-false, or-false}
use mathlib.Core.List.{List}
use lib.Bits.{bit_or}
use lib.Dec.{eqb, ltb}
use lib.ListN.{length, get_or, take, drop, replicate, length-set, get_or-eq_default}
use lib.Seq.{get_or-take, get_or-drop}
use borrow.Author.Tests.{eqb-true, eqb-false, eq-eqb, ne_eqb, ltb-true, ltb-false, lt-ltb}
use Rattle.laws.specs.Search.{any, every}
use Rattle.laws.specs.Bits.{bit}
use Rattle.laws.proofs.Search.{decided, and_split, and-join, or_split, or_left, or_right, implies, implied, same_test, any-true, true-any, any_same, any-blocks}
use Rattle.laws.proofs.Search.{every_true, true-every, every-same, every-blocks}
use Rattle.laws.proofs.Lists.{get_d_set, slice_index-zeros}
use Rattle.laws.proofs.Bits.{bit-zero, bit-pow, bit-or}
use Rattle.wire.specs.Numbers.{u64_at}
use Rattle.wire.proofs.Laws.{bit-u64}
use Rattle.marks.specs.Marks.{word_at, HasRow, marked, mark_if, words_share, word_inside, share, inside, Copied, join_word, Joined}

-- two names in the same word of a row
same_place : (u v : ℕ) → u / 64 ≡ v / 64 → eqb (u % 64) (v % 64) ≡ eqb u v
same_place u v e =
    same_test (eqb (u % 64) (v % 64)) (eqb u v)
    (λ q. let r = eqb-true (u % 64) (v % 64) q in eq-eqb u v (omega arith))
    (λ q. eq-eqb (u % 64) (v % 64) (ap (λ (n : ℕ). n % 64) (eqb-true u v q)))

pub mark_if-length : (row : List ℕ) (on : Bool) (v : ℕ) → length (mark_if row on v) ≡ length row
unfolding mark_if
mark_if-length row true v = length-set row _ _
mark_if-length row false v = refl

pub marked-none : (n u v : ℕ) → marked (replicate n 0) u v ≡ false
unfolding marked
marked-none n u v = ap (λ (x : ℕ). bit x (v % 64)) (slice_index-zeros n (word_at u (v / 64))) ∙ bit-zero (v % 64)

-- a row of four words has no mark at 256 or above
pub marked-past : (row : List ℕ) (o : ℕ) → length row ≡ 4 → 256 ≤ o → marked row 0 o ≡ false
unfolding marked
marked-past row o e h =
    let l : length row ≤ 0 + o / 64 = omega arith in
    ap (λ (x : ℕ). bit x (o % 64)) (get_or-eq_default row 0 l) ∙ bit-zero (o % 64)

-- one name more, in a row of any length
pub marked-set : (row : List ℕ) (v u : ℕ) → v / 64 < length row → marked (mark_if row true v) 0 u ≡ marked row 0 u || eqb u v
unfolding marked mark_if
marked-set row v u h =
    ap (λ (n : ℕ). bit n (u % 64)) (get_d_set row (v / 64) (bit_or (get_or row (v / 64) 0) (2 ^ (v % 64))) (0 + u / 64) 0 h)
    ∙ go (decided (eqb (0 + u / 64) (v / 64)))
  where
    go : (eqb (0 + u / 64) (v / 64) ≡ true) ⊎ (eqb (0 + u / 64) (v / 64) ≡ false)
        → bit (cond (eqb (0 + u / 64) (v / 64)) (bit_or (get_or row (v / 64) 0) (2 ^ (v % 64))) (get_or row (0 + u / 64) 0)) (u % 64) ≡ marked row 0 u || eqb u v
    go (inl e) =
        let q = eqb-true (0 + u / 64) (v / 64) e in
        rw (e, q)
        (bit-or (get_or row (v / 64) 0) (2 ^ (v % 64)) (u % 64)
        ∙ ap (λ (b : Bool). bit (get_or row (v / 64) 0) (u % 64) || b) (bit-pow (v % 64) (u % 64) ∙ same_place u v (omega arith)))
    go (inr e) =
        let q = eqb-false (0 + u / 64) (v / 64) e in
        rw (e, ne_eqb u v (λ p. q (rw p (zero-add _)))) (sym (or-false _))

pub marked_more : (row : List ℕ) (on : Bool) (v u : ℕ) → length row ≡ 4 → v < 256 → marked (mark_if row on v) 0 u ≡ marked row 0 u || (on && eqb u v)
unfolding mark_if
marked_more row false v u l h = sym (or-false _)
marked_more row true v u l h = marked-set row v u (omega arith)

-- ---- two rows, word by word

-- the names of word j of a row
marked-word : (t : List ℕ) (u j k : ℕ) → k < 64 → marked t u (64 * j + k) ≡ bit (get_or t (word_at u j) 0) k
unfolding marked
marked-word t u j k h =
    let q : (64 * j + k) / 64 ≡ j = omega arith in
    let r : (64 * j + k) % 64 ≡ k = omega arith in
    ap₂ (λ (m n : ℕ). bit (get_or t (word_at u m) 0) n) q r

pub share-words : (s : List ℕ) (u : ℕ) (t : List ℕ) (v : ℕ)
    → share s u t v ≡ any 4 (words_share s u t v)
unfolding share words_share
share-words s u t v =
    any-blocks 64 4 (λ o. marked s u o && marked t v o)
    ∙ any_same 4 _ (words_share s u t v) (λ j h. any_same 64 _ _ (λ k l. ap₂ ◌&&◌ (marked-word s u j k l) (marked-word t v j k l)))

pub inside-words : (s : List ℕ) (u : ℕ) (t : List ℕ) (v : ℕ)
    → inside s u t v ≡ every 4 (word_inside s u t v)
unfolding inside word_inside
inside-words s u t v =
    every-blocks 64 4 (λ o. not (marked s u o) || marked t v o)
    ∙ every-same 4 _ (word_inside s u t v)
    (λ j h. every-same 64 _ _ (λ k l. ap₂ (λ (a b : Bool). not a || b) (marked-word s u j k l) (marked-word t v j k l)))

-- ---- rows that hold the 64-bit numbers of a file: a mark is a bit of the file
pub marked-bytes : (s rows : List ℕ) (n : ℕ) → ((k : ℕ) → get_or s k 0 < 256) → ((i : ℕ) → i < 4 * n → get_or rows i 0 ≡ u64_at s (8 * i))
    → (v o : ℕ) → v < n → o < 256 → marked rows v o ≡ bit (get_or s (32 * v + o / 8) 0) (o % 8)
unfolding marked
marked-bytes s rows n byte word v o h l =
    let q : 8 * (4 * v + o / 64) + o % 64 / 8 ≡ 32 * v + o / 8 = omega arith in
    let r : o % 64 % 8 ≡ o % 8 = omega arith in
    ap (λ (x : ℕ). bit x (o % 64)) (word (4 * v + o / 64) (omega arith))
    ∙ bit-u64 s byte (8 * (4 * v + o / 64)) (o % 64) (omega arith)
    ∙ ap₂ (λ (x y : ℕ). bit (get_or s x 0) y) q r

-- four words of a row are a row
pub row_copied : (rows : List ℕ) (u : ℕ) (row : List ℕ) → row ≡ take 4 (drop (4 * u) rows) → Copied rows u row
unfolding marked
row_copied rows u row e o h =
    rw (e, zero-add)
    (ap (λ (x : ℕ). bit x (o % 64)) (get_or-take 4 (drop (4 * u) rows) (o / 64) 0 (omega arith) ∙ get_or-drop (4 * u) rows (o / 64) 0))

-- ---- a row with the marks of another

-- what a row holds when the words below w are joined
abbrev pub Joining : List ℕ → List ℕ → ℕ → List ℕ → ℕ → ℕ → Type 0
Joining before after u from v w =
    ((x o : ℕ) → o < 256 → marked after x o ≡ marked before x o || (eqb x u && (ltb o (64 * w) && marked from v o))) × (length after ≡ length before)

pub join-begun : (s : List ℕ) (u : ℕ) (t : List ℕ) (v : ℕ) → Joining s s u t v 0
join-begun s u t v = (λ x o h. sym (ap (λ (b : Bool). marked s x o || b) (none (eqb x u) (marked t v o) o) ∙ or-false _), refl)
  where
    none : (a b : Bool) (n : ℕ) → a && (ltb n 0 && b) ≡ false
    none true b n = elim (decided (ltb n 0)) [ inl e ↦ absurd (omega (arith, ltb-true n 0 e)) | inr e ↦ rw e ]
    none false b n = refl

-- one word more
module _ (s : List ℕ) (u : ℕ) (t : List ℕ) (v w : ℕ) (fits : HasRow s u) (few : w < 4) where
  join-marked : (x o : ℕ) → o < 256 → marked (join_word s u t v w) x o ≡ marked s x o || (eqb x u && (eqb (o / 64) w && marked t v o))
  unfolding marked
  join-marked x o h =
      ap (λ (n : ℕ). bit n (o % 64)) (get_d_set s (word_at u w) _ (word_at x (o / 64)) 0 (omega arith)) ∙ go (decided (eqb (word_at x (o / 64)) (word_at u w)))
    where
      go : (eqb (word_at x (o / 64)) (word_at u w) ≡ true) ⊎ (eqb (word_at x (o / 64)) (word_at u w) ≡ false)
          → bit (cond (eqb (word_at x (o / 64)) (word_at u w)) (bit_or (get_or s (word_at u w) 0) (get_or t (word_at v w) 0)) (get_or s (word_at x (o / 64)) 0)) (o % 64)
          ≡ marked s x o || (eqb x u && (eqb (o / 64) w && marked t v o))
      go (inl e) =
          let q = eqb-true (word_at x (o / 64)) (word_at u w) e in
          let here : x ≡ u = omega arith in
          let word : o / 64 ≡ w = omega arith in
          rw (e, eq-eqb x u here, eq-eqb (o / 64) w word, here, word) (bit-or (get_or s (word_at u w) 0) (get_or t (word_at v w) 0) (o % 64))
      go (inr e) =
          rw (e, elsewhere (decided (eqb x u)) (decided (eqb (o / 64) w))) (sym (or-false _))
        where
          elsewhere : (eqb x u ≡ true) ⊎ (eqb x u ≡ false) → (eqb (o / 64) w ≡ true) ⊎ (eqb (o / 64) w ≡ false)
              → eqb x u && (eqb (o / 64) w && marked t v o) ≡ false
          elsewhere (inr a) b = rw a
          elsewhere (inl a) (inr b) = rw (a, b)
          elsewhere (inl a) (inl b) =
              absurd (eqb-false (word_at x (o / 64)) (word_at u w) e (ap₂ word_at (eqb-true x u a) (eqb-true (o / 64) w b)))

  pub join_more : (before : List ℕ) → Joining before s u t v w → Joining before (join_word s u t v w) u t v (w + 1)
  join_more before j = (
    λ x o h.
        join-marked x o h
        ∙ ap (λ (b : Bool). b || (eqb x u && (eqb (o / 64) w && marked t v o))) (j.0 x o h)
        ∙ both (marked before x o) (eqb x u) (ltb o (64 * w)) (eqb (o / 64) w) (marked t v o)
        ∙ ap (λ (b : Bool). marked before x o || (eqb x u && (b && marked t v o))) (next o),
    length-set s _ _ ∙ j.1,
  )
    where
      both : (a b c d m : Bool) → (a || (b && (c && m))) || (b && (d && m)) ≡ a || (b && ((c || d) && m))
      both true b c d m = refl
      both false false c d m = refl
      both false true true d true = refl
      both false true true d false = and-false d
      both false true false d m = refl

      next : (o : ℕ) → ltb o (64 * w) || eqb (o / 64) w ≡ ltb o (64 * (w + 1))
      next o =
          same_test _ _
          (λ e. ⊎_elim (λ a. let b = ltb-true o (64 * w) a in lt-ltb o (64 * (w + 1)) (omega arith))
          (λ a. let b = eqb-true (o / 64) w a in lt-ltb o (64 * (w + 1)) (omega arith)) (or_split _ _ e))
          (λ e. let b = ltb-true o (64 * (w + 1)) e in
          ⊎_elim (λ a. or_left _ _ a) (λ a. or_right (ltb o (64 * w)) _ (let c = ltb-false o (64 * w) a in eq-eqb (o / 64) w (omega arith)))
          (decided (ltb o (64 * w))))

-- all words, of a copy of the row
pub join-done : (before after : List ℕ) (u : ℕ) (row t : List ℕ) (v : ℕ) → Copied t v row → Joining before after u row 0 4 → Joined before after u t v
join-done before after u row t v copied j = record {
  rows = λ x o h. j.0 x o h ∙ ap₂ (λ (b m : Bool). marked before x o || (eqb x u && (b && m))) (lt-ltb o 256 h) (copied o h);
  size = j.1;
}

-- ---- containment: of a row in itself, in what it is joined to, and from row to row

module _ (s : List ℕ) (u : ℕ) (t : List ℕ) (v : ℕ) where
  pub inside-marked : inside s u t v ≡ true → (o : ℕ) → o < 256 → marked s u o ≡ true → marked t v o ≡ true
  unfolding inside
  inside-marked e o h = implies _ _ (every_true 256 _ e o h)

  pub marked-inside : ((o : ℕ) → o < 256 → marked s u o ≡ true → marked t v o ≡ true) → inside s u t v ≡ true
  unfolding inside
  marked-inside f = true-every 256 _ (λ o h. implied _ _ (f o h))

pub inside-trans : (r : List ℕ) (x : ℕ) (s : List ℕ) (u : ℕ) (t : List ℕ) (v : ℕ) → inside r x s u ≡ true → inside s u t v ≡ true → inside r x t v ≡ true
inside-trans r x s u t v e f = marked-inside r x t v (λ o h k. inside-marked s u t v f o h (inside-marked r x s u e o h k))

-- a row that shares a mark with one shares it with what contains that
pub share-inside : (r : List ℕ) (x : ℕ) (s : List ℕ) (u : ℕ) (t : List ℕ) (v : ℕ) → inside r x s u ≡ true → share t v r x ≡ true → share s u t v ≡ true
unfolding share
share-inside r x s u t v e f =
    let found = any-true 256 _ f in
    let both = and_split _ _ found.2 in
    true-any 256 _ found.0 found.1 (and-join (inside-marked r x s u e found.0 found.1 both.1) both.0)

module _ (before after : List ℕ) (u : ℕ) (t : List ℕ) (v : ℕ) (j : Joined before after u t v) where
  pub join-keeps : (x : ℕ) → inside before x after x ≡ true
  join-keeps x = marked-inside before x after x (λ o h k. j.rows x o h ∙ or_left _ _ k)

  pub join-adds : inside t v after u ≡ true
  join-adds = marked-inside t v after u (λ o h k. j.rows u o h ∙ or_right (marked before u o) _ (and-join (eq-eqb u u refl) k))
