-- Words moved within a list: what a move and a turn of `keep_threads` leave.
use Prim.Native.Nat.{ℕ, ◌+◌, ◌*◌, ◌-◌, ◌≤◌, ◌<◌}
use native.Mathlib.Numerals.{add-one}
use native.Mathlib.Omega.{arith}
use mathlib.Core.Path.{◌≡◌, refl, sym, ap, ap₂, ◌∙◌}
use mathlib.Core.Bool.{Bool, true, false, cond}
use mathlib.Core.List.{List, [], ◌∷◌, ◌++◌, append-nil, append_assoc}
use Rattle.std.specs.List.{copy_within}
use lib.ListN.{length, get_or, take, drop, length-append, length-drop}
use lib.Seq.{take_all}
use Rattle.laws.specs.Lists.{put}
use Rattle.laws.proofs.Put.{part_length, drop_past, put-put}
use Rattle.model.specs.Calculus.{Config, keep}
use Rattle.model.specs.Numbers.{nobody}
use Rattle.model.specs.Memory.{threads_in, thread_words, words_of}
use Rattle.model.proofs.Threads.{keep-next}
use Rattle.model.proofs.Memory.{slot, threads-at, thread-words, words_append, length-threads}
use Rattle.threads.specs.Threads.{words_if}

-- ---- words moved together

-- what `copy_within` leaves, as words put in place
pub moved : (l : List ℕ) (from to w end : ℕ) → end ≡ from + w → from + w ≤ length l → copy_within l from end to ≡ put to (take w (drop from l)) l
unfolding put
moved l from to w end e h =
    let n = part_length l from w h in
    let same : end - from ≡ w = omega arith in
    rw (same, n, append_assoc)

-- ---- threads that stay

module _ (n count : ℕ) (l : List ℕ) (f : ℕ → Bool) where
  -- the words of those of the first i threads that stay
  abbrev pub kept : ℕ → List ℕ
  kept i = words_of (keep f (take i (threads_in n count l)))

  pub kept-none : kept 0 ≡ []
  unfolding keep words_of
  kept-none = refl

  pub kept-all : kept count ≡ words_of (keep f (threads_in n count l))
  kept-all =
      let e : length (threads_in n count l) ≤ count = let z = length-threads n count l in omega arith in
      ap (λ (c : Config ℕ ℕ). words_of (keep f c)) (take_all count (threads_in n count l) e)

  module _ (room : count * (2 + n) ≤ length l) (i : ℕ) (h : i < count) where
    words-here : thread_words (get_or (threads_in n count l) i nobody) ≡ take (2 + n) (drop (i * (2 + n)) l)
    words-here =
        let s = slot n i count h in
        let k : 2 + n ≤ length (drop (i * (2 + n)) l) = rw length-drop (omega arith) in
        ap thread_words (threads-at n i count l h) ∙ thread-words n (drop (i * (2 + n)) l) k

    words-if : (b : Bool) → words_of (cond b (get_or (threads_in n count l) i nobody ∷ []) []) ≡ words_if b (i * (2 + n)) (2 + n) l
    unfolding words_of
    words-if true = append-nil _ ∙ words-here
    words-if false = refl

    kept_next : kept (i + 1) ≡ kept i ++ words_if (f i) (i * (2 + n)) (2 + n) l
    kept_next =
        let e = length-threads n count l in
        ap kept (add-one i)
        ∙ ap words_of (keep-next nobody f (threads_in n count l) i (omega arith))
        ∙ words_append (keep f (take i (threads_in n count l))) (cond (f i) (get_or (threads_in n count l) i nobody ∷ []) [])
        ∙ ap (λ (t : List ℕ). kept i ++ t) (words-if (f i))

    -- a turn of `keep_threads`: thread i's words were not written yet
    pub kept-turn : (to : ℕ) (m : List ℕ) → to ≡ length (kept i) → to ≤ i * (2 + n) → m ≡ put 0 (kept i) l
        → (put to (words_if (f i) (i * (2 + n)) (2 + n) m) m ≡ put 0 (kept (i + 1)) l)
        × (to + length (words_if (f i) (i * (2 + n)) (2 + n) m) ≡ length (kept (i + 1)))
    kept-turn to m eto le em =
        let s = slot n i count h in
        let from = i * (2 + n) in
        let ys = words_if (f i) from (2 + n) l in
        let at : to ≡ 0 + length (kept i) = omega arith in
        let past : drop from m ≡ drop from l = ap (drop from) em ∙ drop_past 0 (kept i) l (omega arith) from (omega arith) in
        let same : words_if (f i) from (2 + n) m ≡ ys = ap (λ (t : List ℕ). cond (f i) (take (2 + n) t) []) past in (
          ap (λ (t : List ℕ). put to t m) same
              ∙ ap₂ (λ (k : ℕ) (t : List ℕ). put k ys t) at em
              ∙ put-put 0 (kept i) l (omega arith) ys
              ∙ ap (λ (t : List ℕ). put 0 t l) (sym kept_next),
          ap₂ ◌+◌ eto (ap length same) ∙ sym (length-append (kept i) ys) ∙ ap length (sym kept_next),
        )
