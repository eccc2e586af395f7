-- The start on lent lists: counted, then written.
use Prim.Native.Nat.{ℕ, zero, suc, ◌+◌, ◌≤◌, min}
use native.Mathlib.Nat.{zero-add, zero-mul}
use native.Mathlib.Omega.{arith}
use mathlib.Core.Path.{◌≡◌, refl, sym, ap, ◌∙◌}
use mathlib.Core.Bool.{true, false}
use mathlib.Core.List.{List, [], ◌∷◌}
use lib.Dec.{leb}
use lib.ListN.{length, take, replicate, length-replicate}
use borrow.Author.Tests.{le-leb}
use Rattle.laws.proofs.Put.{put-nil}
use Rattle.model.specs.Tree.{Array}
use Rattle.model.specs.Calculus.{Config, choices_of, start}
use Rattle.model.specs.Memory.{memory, words, numbers_of, thread_room, stops, leaves, store, fitted, start_in}
use Rattle.model.proofs.Memory.{thread-room}
use Rattle.records.specs.declared.Trailer.{Trailer}
use Rattle.records.specs.Record.{array_of}
use Rattle.unfolds.specs.Unfold.{unfolded, Written}
use Rattle.lent.proofs.Laws.{too_many, few-enough}

-- the front of a list of zeros
take-zeros : (n k : ℕ) → n ≤ k → take {A = ℕ} n (replicate k 0) ≡ replicate n 0
take-zeros zero k h = refl
take-zeros (suc n) zero h = absurd (omega arith)
take-zeros (suc n) (suc k) h = ap (λ (x : List ℕ). 0 ∷ x) (take-zeros n k (omega arith))

-- the room for an environment, cut to n names
pub names-bare : (n : ℕ) → n ≤ 256 → take {A = ℕ} n (replicate 256 0) ≡ replicate n 0
names-bare n h = take-zeros n 256 h

pub names-room : (n : ℕ) → n ≤ 256 → length {A = ℕ} (take n (replicate 256 0)) ≡ n
names-room n h = ap length (names-bare n h) ∙ length-replicate n 0

module _ (f : List ℕ) (t : Trailer) (choices l : List ℕ) (n : ℕ) where
  abbrev a : Array
  a = array_of f t

  -- no name holds anything yet
  abbrev d : Config ℕ ℕ
  d = unfolded f t choices 0 0 (replicate t.names 0)

  start_is : start_in a (choices_of choices) (memory l 0 [] 0) ≡ fitted a (memory l 0 [] 0) d []
  unfolding start_in start unfolded words
  start_is = refl

  module _ (e : n ≡ min 257 (0 + length d)) where
    counted : n ≡ min 257 (length d)
    counted = e ∙ rw zero-add

    pub start-many : leb n (thread_room t.names l) ≡ false → start_in a (choices_of choices) (memory l 0 [] 0) ≡ stops 28
    unfolding fitted
    start-many h = start_is ∙ rw (too_many t.names l n (length d) counted h)

    pub start-made : leb n (thread_room t.names l) ≡ true → (l' : List ℕ) (end : ℕ) → Written (2 + t.names) d l l' 0 end
        → start_in a (choices_of choices) (memory l 0 [] 0) ≡ leaves (memory l' n [] 0)
    unfolding fitted store numbers_of
    start-made h l' end x =
        let g = few-enough t.names l n (length d) counted h in
        let room = thread-room t.names (length d) l g.1 in
        let words = rw zero-mul at (x.placed (rw zero-add room.0) (rw zero-add room.1)) in
        start_is ∙ rw (le-leb (length d) (thread_room t.names l) g.1)
        (λ i. leaves record { threads = sym words i; thread_count = sym g.0 i; markers = put-nil 0 [] i; marker_count = 0 })
