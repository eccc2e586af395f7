-- The laws of `put`: a list changed in place keeps its length and every word outside what was written.
use mathlib.Core.Path.{◌≡◌, sym, ap, ◌∙◌}
use mathlib.Core.List.{List, [], ◌∷◌, ◌++◌, append_assoc, append-nil}
use Prim.Native.Nat.{ℕ, ◌+◌, ◌-◌, ◌≤◌, ◌<◌}
use native.Mathlib.Nat.{add-zero, add_assoc, zero-add}
use native.Mathlib.Numerals.{add-one}
use native.Mathlib.Omega.{arith}
use lib.ListN.{length, take, drop, get_or, set, length-append, length-drop, take-append-drop, drop_of_length-le, get_or-append}
use borrow.Rule.Slice.PartMut.{put_mid}
use lib.Seq.{take_at, take-suc, drop_at, set_split, drop-drop, get_or-drop, get_or-append-add, length-take-le}
use Rattle.laws.specs.Lists.{put}

module _ {A : Type 0} where
  -- the j elements from a position on, and one more
  module _ (l : List A) (from : ℕ) where
    pub part_length : (j : ℕ) → from + j ≤ length l → length (take j (drop from l)) ≡ j
    part_length j h = length-take-le j (drop from l) (rw length-drop (omega arith))

    pub part-next : (j : ℕ) (d : A) → from + j < length l → take j (drop from l) ++ (get_or l (from + j) d ∷ []) ≡ take (j + 1) (drop from l)
    part-next j d h =
        let inside : j < length (drop from l) = rw length-drop (omega arith) in
        ap (λ (x : A). take j (drop from l) ++ (x ∷ [])) (sym (get_or-drop from l j d))
        ∙ sym (take-suc (drop from l) j d inside) ∙ ap (λ (k : ℕ). take k (drop from l)) (sym (add-one j))

  -- nothing written; everything written; written from the front
  pub put-nil : (at : ℕ) (l : List A) → put at [] l ≡ l
  unfolding put
  put-nil at l = rw (add-zero, take-append-drop)

  pub put_all : (xs l : List A) → length l ≤ length xs → put 0 xs l ≡ xs
  unfolding put
  put_all xs l h = rw (zero-add, drop_of_length-le l h) (append-nil xs)

  pub put_front : (xs l : List A) → put 0 xs l ≡ xs ++ drop (length xs) l
  unfolding put
  put_front xs l = rw zero-add

  -- one word
  pub set-as-put : (l : List A) (k : ℕ) (a : A) → k < length l → set l k a ≡ put k (a ∷ []) l
  unfolding put
  set-as-put l k a h = set_split l k a h ∙ ap (λ (n : ℕ). take k l ++ (a ∷ drop n l)) (sym (add-one k))

  -- a part, from `at` to an end, in place of which words were written: what copy_from_slice leaves
  pub put-part : (at end : ℕ) (xs l : List A) → at ≤ end → length xs ≡ end - at → put_mid at (end - at) l xs ≡ put at xs l
  unfolding put
  put-part at end xs l h e =
      let n : at + (end - at) ≡ at + length xs = omega arith in
      ap (λ (t : List A). take at l ++ (xs ++ t)) (drop-drop (end - at) at l ∙ ap (λ (k : ℕ). drop k l) n)

  -- words written where they stand already
  pub put_same : (at w : ℕ) (l : List A) → at + w ≤ length l → put at (take w (drop at l)) l ≡ l
  unfolding put
  put_same at w l h =
      let n : length (take w (drop at l)) ≡ w = part_length l at w h in
      ap (λ (k : ℕ). take at l ++ (take w (drop at l) ++ drop (at + k) l)) n
      ∙ ap (λ (t : List A). take at l ++ (take w (drop at l) ++ t)) (sym (drop-drop w at l))
      ∙ ap (λ (t : List A). take at l ++ t) (take-append-drop w (drop at l))
      ∙ take-append-drop at l

  -- words with what stands before them
  pub put-from : (at : ℕ) (xs l : List A) → at + length xs ≤ length l → put at xs l ≡ put 0 (take at l ++ xs) l
  unfolding put
  put-from at xs l h = let k : at ≤ length l = omega arith in rw (zero-add, length-append, length-take-le at l k, append_assoc)

  module _ (at : ℕ) (xs l : List A) (h : at + length xs ≤ length l) where
    head-length : length (take at l ++ xs) ≡ at + length xs
    head-length = let k : at ≤ length l = omega arith in rw (length-append, length-take-le)

    put-split : put at xs l ≡ (take at l ++ xs) ++ drop (at + length xs) l
    unfolding put
    put-split = rw append_assoc

    pub length-put : length (put at xs l) ≡ length l
    length-put = rw (put-split, length-append, head-length, length-drop) (omega arith)

    pub take_put : take (at + length xs) (put at xs l) ≡ take at l ++ xs
    take_put = rw put-split (take_at (take at l ++ xs) (drop (at + length xs) l) (at + length xs) head-length)

    pub drop-put : drop (at + length xs) (put at xs l) ≡ drop (at + length xs) l
    drop-put = rw put-split (drop_at (take at l ++ xs) (drop (at + length xs) l) (at + length xs) head-length)

    -- what stands past the words written is as it was
    pub slice_index-put : (k : ℕ) (d : A) → get_or (put at xs l) (at + length xs + k) d ≡ get_or l (at + length xs + k) d
    slice_index-put k d = rw (← get_or-drop (at + length xs) (put at xs l) k d, drop-put, get_or-drop)

    drop-put-more : (k : ℕ) → drop (at + length xs + k) (put at xs l) ≡ drop (at + length xs + k) l
    drop-put-more k = rw (← drop-drop k (at + length xs) (put at xs l), drop-put, drop-drop)

    pub drop_past : (k : ℕ) → at + length xs ≤ k → drop k (put at xs l) ≡ drop k l
    drop_past k far =
        let e : k ≡ at + length xs + (k - (at + length xs)) = omega arith in
        ap (λ (j : ℕ). drop j (put at xs l)) e ∙ drop-put-more (k - (at + length xs)) ∙ ap (λ (j : ℕ). drop j l) (sym e)

    -- words, and more right after them
    pub put-put : (ys : List A) → put (at + length xs) ys (put at xs l) ≡ put at (xs ++ ys) l
    unfolding put
    put-put ys =
        ap (λ (t : List A). t ++ (ys ++ drop (at + length xs + length ys) (put at xs l))) take_put
        ∙ ap (λ (t : List A). (take at l ++ xs) ++ (ys ++ t)) (drop-put-more (length ys))
        ∙ simp (append_assoc, length-append, add_assoc)

    pub set-put : (a : A) → at + length xs < length l → set (put at xs l) (at + length xs) a ≡ put at (xs ++ (a ∷ [])) l
    set-put a k =
        let k' : at + length xs < length (put at xs l) = rw length-put k in
        set-as-put (put at xs l) (at + length xs) a k' ∙ put-put (a ∷ [])

  -- two and four words written one after the other
  pub put_two : (l : List A) (at : ℕ) (a b : A) → at + 1 < length l → set (set l at a) (at + 1) b ≡ put at (a ∷ b ∷ []) l
  put_two l at a b h = ap (λ (m : List A). set m (at + 1) b) (set-as-put l at a (omega arith)) ∙ set-put at (a ∷ []) l (omega arith) b (omega arith)

  pub put_four : (l : List A) (at : ℕ) (a b c d : A) → at + 3 < length l
      → set (set (set (set l at a) (at + 1) b) (at + 2) c) (at + 3) d ≡ put at (a ∷ b ∷ c ∷ d ∷ []) l
  put_four l at a b c d h =
      ap (λ (m : List A). set (set m (at + 2) c) (at + 3) d) (put_two l at a b (omega arith))
      ∙ ap (λ (m : List A). set m (at + 3) d) (set-put at (a ∷ b ∷ []) l (omega arith) c (omega arith))
      ∙ set-put at (a ∷ b ∷ c ∷ []) l (omega arith) d (omega arith)

  -- what was written is read back, where it stands
  pub slice_index-written : (at : ℕ) (xs l : List A) (k : ℕ) (d : A) → at + length xs ≤ length l → k < length xs → get_or (put at xs l) (at + k) d ≡ get_or xs k d
  unfolding put
  slice_index-written at xs l k d h j =
      let front : length (take at l) ≡ at = length-take-le at l (omega arith) in
      ap (λ (n : ℕ). get_or (take at l ++ (xs ++ drop (at + length xs) l)) (n + k) d) (sym front)
      ∙ get_or-append-add (take at l) (xs ++ drop (at + length xs) l) k d ∙ get_or-append xs (drop (at + length xs) l) d k j
