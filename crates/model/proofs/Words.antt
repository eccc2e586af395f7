-- The bridge from lent memory to the calculus: a word stands for an opening under a marker tree, and an attempt on words, decoded, is the
-- attempt of the calculus on what the words stand for. The entries grow by at most the marker made, and keep what numbers stand for.
use Prim.Native.Nat.{ℕ, ◌+◌, ◌≤◌, ◌<◌, zero-le}
use native.Mathlib.Nat.{le_refl, le_trans}
use native.Mathlib.Omega.{arith}
use mathlib.Core.Path.{◌≡◌, refl, sym, ap, ap₂, ◌∙◌}
use mathlib.Core.Logic.{◌⊎◌, inl, inr}
use mathlib.Core.Bool.{Bool, true, false, cond, not, ◌&&◌}
use mathlib.Core.List.{List, [], ◌∷◌, ◌++◌, map}
use mathlib.Core.Option.{Option, none, some}
use lib.Dec.{eqb, ltb}
use lib.ListN.{length, get_or, length-append}
use borrow.Author.Tests.{eqb-true, eqb-false, eq-eqb, ne_eqb}
use Rattle.laws.specs.Lists.{All}
use Rattle.laws.proofs.Search.{decided, and_split, and-join, same_test}
use Rattle.laws.proofs.Lists.{All-at, All-map}
use Rattle.model.specs.Tree.{Array, Sort, out, inp, resource, Agent, agent_at}
use Rattle.model.specs.Calculus.{Marker, Cell, unheld, holds, same_marker, same_cell, calculus, Choices, Thread, Config, Attempt}
use Rattle.model.specs.Calculus.{no_thread, marker_of, attempt, start}
use Rattle.model.specs.Numbers.{Entry, decode_to, decode, Listed, position, extend, list_after, markers_after, map_thread}
use Rattle.model.specs.Memory.{opening, new_in, marker_in, words, decode_word}
use Rattle.model.proofs.Markers.{same-eq, same_refl, decode-injective, extend-listed, extend-decode, extend-new, extend-place}
use Rattle.model.proofs.Natural.{map_answer, GoodThread, Agrees, attempt-map, start-map}

-- a thread of words, decoded
abbrev pub decoded : List Entry → Thread ℕ ℕ → Thread Marker Cell
decoded es t = map_thread (decode es) (decode_word es) t

-- "marker numbers are at most the marker count", n: a thread's own and those in its words
abbrev pub Fits : ℕ → Thread ℕ ℕ → Type 0
Fits n = GoodThread (λ m. m ≤ n) (λ x. marker_in x ≤ n)

-- ---- words

-- words compare as what they stand for
word_same : (ds : List Entry) → Listed ds → (x y : ℕ) → marker_in x ≤ length ds → marker_in y ≤ length ds
    → (not (eqb x 0) && eqb x y) ≡ same_cell (decode_word ds x) (decode_word ds y)
unfolding decode_word same_cell
word_same ds ok x y hx hy = go (decided (eqb x 0)) (decided (eqb y 0))
  where
    M : ℕ → Marker
    M z = decode ds (marker_in z)

    go : (eqb x 0 ≡ true) ⊎ (eqb x 0 ≡ false) → (eqb y 0 ≡ true) ⊎ (eqb y 0 ≡ false)
        → (not (eqb x 0) && eqb x y) ≡ same_cell (cond (eqb x 0) unheld (holds (new_in x) (M x))) (cond (eqb y 0) unheld (holds (new_in y) (M y)))
    go (inl p) q = rw p
    go (inr p) (inl q) = let z = eqb-true y 0 q in rw (p, q, z) p
    go (inr p) (inr q) =
        rw (p, q)
        (same_test (eqb x y) (eqb (new_in x) (new_in y) && same_marker (M x) (M y))
        (λ e. let z = eqb-true x y e in rw z (and-join (eq-eqb (new_in y) (new_in y) refl) (same_refl (M y))))
        (λ e.
        let s = and_split (eqb (new_in x) (new_in y)) (same_marker (M x) (M y)) e in
        let n : new_in x ≡ new_in y = eqb-true _ _ s.0 in
        let m : marker_in x ≡ marker_in y = decode-injective ds ok (marker_in x) (marker_in y) hx hy (same-eq (M x) (M y) s.1) in
        let a = eqb-false x 0 p in
        let b = eqb-false y 0 q in
        eq-eqb x y (omega arith)))

-- an opening's word stands for the opening
opening-stands : (ds : List Entry) (n m : ℕ) → m < 65536 → decode_word ds (opening n m) ≡ holds n (decode ds m)
unfolding decode_word
opening-stands ds n m h =
    let z : eqb (opening n m) 0 ≡ false = ne_eqb (opening n m) 0 (λ e. absurd (omega arith)) in
    let q : new_in (opening n m) ≡ n = omega arith in
    let r : marker_in (opening n m) ≡ m = omega arith in
    rw (z, q, r)

agrees : (es ds : List Entry) → Listed ds → length ds < 65536
    → Agrees (decode ds) (decode_word ds) (words es) calculus (λ m. m ≤ length ds) (λ x. marker_in x ≤ length ds)
unfolding words calculus decode decode_to decode_word
agrees es ds ok few = record {
  empty = refl;
  unheld = refl;
  holds = λ n m h. opening-stands ds n m (omega arith);
  same = word_same ds ok;
  fine = zero-le;
  bare = zero-le;
  opens = λ n m h. let r : marker_in (opening n m) ≡ m = omega arith in rw r h;
}

pub none-listed : Listed []
none-listed = record { ordered = λ k h. absurd (omega arith); distinct = λ k l h i e. absurd (omega arith) }

pub start-words : (a : Array) (ch : Choices) → map (decoded []) (start (words []) a ch) ≡ start calculus a ch
start-words = start-map (decode []) (decode_word []) (words []) calculus _ _ (agrees [] [] none-listed (omega arith))

-- ---- entries that keep what the numbers of others stand for

pub record Kept (es ds : List Entry) : Type 0 where
  pub listed : Listed ds
  pub longer : length es ≤ length ds
  pub most : length ds ≤ length es + 1
  pub stands : (n : ℕ) → n ≤ length es → decode ds n ≡ decode es n

kept_same : (es : List Entry) → Listed es → Kept es es
kept_same es ok = record { listed = ok; longer = le_refl (length es); most = omega arith; stands = λ n h. refl }

-- what fits the shorter list is read alike by the longer
map_on : {A B : Type 0} {P : A → Type 0} (f g : A → B) → ((x : A) → P x → f x ≡ g x) → (xs : List A) → All P xs → map f xs ≡ map g xs
map_on f g h [] k = refl
map_on f g h (x ∷ xs) k = ap₂ (λ (y : _) (z : List _). y ∷ z) (h x k.0) (map_on f g h xs k.1)

module _ (es ds : List Entry) (k : Kept es ds) where
  kept_word : (x : ℕ) → marker_in x ≤ length es → decode_word ds x ≡ decode_word es x
  unfolding decode_word
  kept_word x h = rw (k.stands (marker_in x) h)

  kept-thread : (t : Thread ℕ ℕ) → Fits (length es) t → decoded ds t ≡ decoded es t
  kept-thread t h =
      let m = k.stands t.marker h.0 in
      let e = map_on (decode_word ds) (decode_word es) kept_word t.env h.1 in
      λ i. record { agent = t.agent; marker = m i; env = e i }

  fits_more : (t : Thread ℕ ℕ) → Fits (length es) t → Fits (length ds) t
  fits_more t h = (le_trans h.0 k.longer, All-map (λ x l. le_trans l k.longer) t.env h.1)

-- ---- one attempt

module _ (es : List Entry) (ok : Listed es) (r t : Thread ℕ ℕ) (hr : r.marker ≤ length es) (ht : t.marker ≤ length es) where
  abbrev entry : Entry
  entry = record { resource = r.agent; out = t.agent; left = r.marker; right = t.marker }

  kept-after : (s : Sort) → Kept es (list_after es s r t)
  unfolding list_after extend
  kept-after out = kept_same es ok
  kept-after inp = kept_same es ok
  kept-after resource = record {
    listed = extend-listed es ok entry hr ht;
    longer = (grown (ltb (position entry es) (length es))).0;
    most = (grown (ltb (position entry es) (length es))).1;
    stands = extend-decode es ok entry hr ht;
  }
    where
      grown : (b : Bool) → (length es ≤ length (cond b es (es ++ (entry ∷ [])))) × (length (cond b es (es ++ (entry ∷ []))) ≤ length es + 1)
      grown true = (le_refl (length es), omega arith)
      grown false = rw (length-append es (entry ∷ [])) (omega arith, omega arith)

  -- the number of the receiver's marker stands for the marker of the calculus
  pub made-stands : (s : Sort) → decode (list_after es s r t) (marker_of (words es) s r t) ≡ marker_of calculus s (decoded es r) (decoded es t)
  unfolding list_after marker_of words calculus
  made-stands out = refl
  made-stands inp = refl
  made-stands resource = extend-new es ok entry hr ht

  made-fits : (s : Sort) → marker_of (words es) s r t ≤ length (list_after es s r t)
  unfolding list_after marker_of words
  made-fits out = hr
  made-fits inp = hr
  made-fits resource = (extend-place es ok entry hr ht).0

module _ (a : Array) (es : List Entry) (ok : Listed es) (c : Config ℕ ℕ) (fits : All (Fits (length es)) c) (u : Attempt) where
  abbrev R : Thread ℕ ℕ
  R = get_or c u.receiver (no_thread (words es))

  abbrev S : Thread ℕ ℕ
  S = get_or c u.sender (no_thread (words es))

  abbrev ds : List Entry
  ds = markers_after a es c u

  fit : (i : ℕ) → Fits (length es) (get_or c i (no_thread (words es)))
  unfolding words
  fit i = All-at (Fits (length es)) c i (no_thread (words es)) (zero-le, tt) fits

  -- the entries after the attempt, by the receiver's agent
  pub after_is : (p : Agent) → agent_at a R.agent ≡ some p → ds ≡ list_after es p.sort R S
  unfolding markers_after words
  after_is p e = ap (λ x. elim x [ none ↦ es | some p ↦ list_after es p.sort R S ]) e

  pub after_kept : Kept es ds
  unfolding markers_after words
  after_kept = go (agent_at a R.agent)
    where
      go : (x : Option Agent) → Kept es (elim x [ none ↦ es | some p ↦ list_after es p.sort R S ])
      go none = kept_same es ok
      go (some p) = kept-after es ok R S (fit u.receiver).0 (fit u.sender).0 p.sort

  module _ (p : Agent) (e : agent_at a R.agent ≡ some p) where
    pub marker-fits : marker_of (words es) p.sort R S ≤ length ds
    marker-fits = rw (after_is p e) (made-fits es ok R S (fit u.receiver).0 (fit u.sender).0 p.sort)

    pub marker-stands : decode ds (marker_of (words es) p.sort R S) ≡ marker_of calculus p.sort (decoded es R) (decoded es S)
    marker-stands = rw (after_is p e) (made-stands es ok R S (fit u.receiver).0 (fit u.sender).0 p.sort)

  -- an attempt on words, decoded, is the attempt of the calculus on what the words stand for
  pub attempt-words : length es ≤ 4096 → map_answer (decode ds) (decode_word ds) (attempt (words es) a c u) ≡ attempt calculus a (map (decoded es) c) u
  attempt-words few =
      let k = after_kept in
      attempt-map (decode ds) (decode_word ds) (words es) calculus _ _ (agrees es ds k.listed (omega arith)) a c (All-map (fits_more es ds k) c fits) u
      (λ p e. (
        marker-fits p e,
        marker-stands p e
            ∙ sym (ap₂ (marker_of calculus p.sort) (kept-thread es ds k R (fit u.receiver)) (kept-thread es ds k S (fit u.sender))),
      ))
      ∙ ap (λ d. attempt calculus a d u) (map_on (decoded ds) (decoded es) (kept-thread es ds k) c fits)
