-- The laws of threads and entries in lists of words: their lengths, where each stands, and that reading what was written gives it back.
use Prim.Native.Nat.{ℕ, zero, suc, ◌+◌, ◌*◌, ◌/◌, ◌≤◌, ◌<◌}
use native.Mathlib.Nat.{zero-mul, suc-mul, mul-le-mul_right, add_comm, add-zero, le-div_iff_mul-le}
use native.Mathlib.Numerals.{add-one}
use native.Mathlib.Omega.{arith}
use mathlib.Core.Path.{◌≡◌, refl, sym, ap, ap₂, ◌∙◌}
use mathlib.Core.List.{List, [], ◌∷◌, ◌++◌, append_assoc}
use lib.ListN.{length, get_or, take, drop, length-drop, length-append}
use lib.Seq.{take-add, take_at, get_or-take, drop_at, drop-drop, get_or-drop, length-take-le}
use Rattle.laws.specs.Lists.{All}
use Rattle.model.specs.Calculus.{Thread, Config}
use Rattle.model.specs.Numbers.{Entry, no_entry, nobody}
use Rattle.model.specs.Memory.{thread_in, threads_in, thread_words, words_of, entry_in, entries_in, entry_numbers, numbers_of, thread_room, marker_room}

-- ---- threads

-- thread r lies within the first k
pub slot : (n r k : ℕ) → r < k → r * (2 + n) + (2 + n) ≤ k * (2 + n)
slot n r k h = rw (← suc-mul r (2 + n)) (mul-le-mul_right (2 + n) h)

-- the next thread's place, as a loop that counts up finds it
pub next-slot : (n r : ℕ) → r * (2 + n) + (2 + n) ≡ (r + 1) * (2 + n)
next-slot n r = sym (ap (λ (k : ℕ). k * (2 + n)) (add-one r) ∙ suc-mul r (2 + n))

-- the agent, the marker and a name's word of the thread at a place
pub agent-word : (n at : ℕ) (l : List ℕ) → (thread_in n (drop at l)).agent ≡ get_or l at 0
unfolding thread_in
agent-word n at l = get_or-drop at l 0 0 ∙ ap (λ (k : ℕ). get_or l k 0) (add-zero at)

pub marker-word : (n at : ℕ) (l : List ℕ) → (thread_in n (drop at l)).marker ≡ get_or l (at + 1) 0
unfolding thread_in
marker-word n at l = get_or-drop at l 1 0

pub name-word : (n at : ℕ) (l : List ℕ) (v : ℕ) → v < n → get_or (thread_in n (drop at l)).env v 0 ≡ get_or l (at + 2 + v) 0
unfolding thread_in
name-word n at l v h =
    get_or-take n (drop 2 (drop at l)) v 0 h ∙ ap (λ (t : List ℕ). get_or t v 0) (drop-drop 2 at l) ∙ get_or-drop (at + 2) l v 0

two : (n : ℕ) → 2 + n ≡ suc (suc n)
two n = omega arith

-- one step of 2 + n words further
further : (n r : ℕ) → (2 + n) + r * (2 + n) ≡ suc r * (2 + n)
further n r = add_comm (2 + n) (r * (2 + n)) ∙ sym (suc-mul r (2 + n))

pub thread-words : (n : ℕ) (l : List ℕ) → 2 + n ≤ length l → thread_words (thread_in n l) ≡ take (2 + n) l
unfolding thread_in
thread-words n [] h = absurd (omega arith)
thread-words n (a ∷ []) h = absurd (omega arith)
thread-words n (a ∷ b ∷ l) h = rw (two n)

pub words_append : (c d : Config ℕ ℕ) → words_of (c ++ d) ≡ words_of c ++ words_of d
unfolding words_of
words_append [] d = refl
words_append (t ∷ c) d = rw (words_append c d, append_assoc)

module _ (n : ℕ) where
  pub length-threads : (k : ℕ) (l : List ℕ) → length (threads_in n k l) ≡ k
  unfolding threads_in
  length-threads zero l = refl
  length-threads (suc k) l = ap suc (length-threads k (drop (2 + n) l))

  -- threads read and written again are the words they were read from
  pub words-threads : (k : ℕ) (l : List ℕ) → k * (2 + n) ≤ length l → words_of (threads_in n k l) ≡ take (k * (2 + n)) l
  unfolding threads_in words_of
  words-threads zero l h = rw (zero-mul (2 + n))
  words-threads (suc k) l h =
      let e : suc k * (2 + n) ≡ (2 + n) + k * (2 + n) = sym (further n k) in
      let h' : k * (2 + n) ≤ length (drop (2 + n) l) = rw length-drop (omega arith) in
      ap₂ (λ (x y : List ℕ). x ++ y) (thread-words n l (omega arith)) (words-threads k (drop (2 + n) l) h')
      ∙ sym (rw e (take-add (2 + n) (k * (2 + n)) l))

  pub threads-at : (r k : ℕ) (l : List ℕ) → r < k → get_or (threads_in n k l) r nobody ≡ thread_in n (drop (r * (2 + n)) l)
  unfolding threads_in
  threads-at r zero l h = absurd (omega arith)
  threads-at zero (suc k) l h = rw zero-mul
  threads-at (suc r) (suc k) l h = threads-at r k (drop (2 + n) l) (omega arith) ∙ rw (drop-drop, further n r)

  -- the same by words
  pub thread-at : (r k : ℕ) (l : List ℕ) → r < k → get_or (threads_in n k l) r nobody
      ≡ record { agent = get_or l (r * (2 + n)) 0; marker = get_or l (r * (2 + n) + 1) 0; env = take n (drop (r * (2 + n) + 2) l) }
  unfolding thread_in
  thread-at r k l h =
      let a : get_or (drop (r * (2 + n)) l) 0 0 ≡ get_or l (r * (2 + n)) 0 = get_or-drop (r * (2 + n)) l 0 0 ∙ rw add-zero in
      let b : get_or (drop (r * (2 + n)) l) 1 0 ≡ get_or l (r * (2 + n) + 1) 0 = get_or-drop (r * (2 + n)) l 1 0 in
      let d : drop 2 (drop (r * (2 + n)) l) ≡ drop (r * (2 + n) + 2) l = drop-drop 2 (r * (2 + n)) l in
      threads-at r k l h ∙ (λ i. record { agent = a i; marker = b i; env = take n (d i) })

-- ---- entries

pub numbers-append : (es ds : List Entry) → numbers_of (es ++ ds) ≡ numbers_of es ++ numbers_of ds
unfolding numbers_of
numbers-append [] ds = refl
numbers-append (e ∷ es) ds = rw (numbers-append es ds)

pub length-entries : (k : ℕ) (l : List ℕ) → length (entries_in k l) ≡ k
unfolding entries_in
length-entries zero l = refl
length-entries (suc k) l = ap suc (length-entries k (drop 4 l))

pub entries_at : (r k : ℕ) (l : List ℕ) → r < k → get_or (entries_in k l) r no_entry ≡ entry_in (drop (4 * r) l)
unfolding entries_in
entries_at r zero l h = absurd (omega arith)
entries_at zero (suc k) l h = refl
entries_at (suc r) (suc k) l h =
    let e : 4 + 4 * r ≡ 4 * suc r = omega arith in
    entries_at r k (drop 4 l) (omega arith) ∙ rw (drop-drop, e)

pub length-numbers : (es : List Entry) → length (numbers_of es) ≡ 4 * length es
unfolding numbers_of
length-numbers [] = refl
length-numbers (e ∷ es) = let h = length-numbers es in omega arith

entry-numbers : (l : List ℕ) → 4 ≤ length l → entry_numbers (entry_in l) ≡ take 4 l
unfolding entry_in
entry-numbers [] h = absurd (omega arith)
entry-numbers (a ∷ []) h = absurd (omega arith)
entry-numbers (a ∷ b ∷ []) h = absurd (omega arith)
entry-numbers (a ∷ b ∷ c ∷ []) h = absurd (omega arith)
entry-numbers (a ∷ b ∷ c ∷ d ∷ l) h = refl

pub numbers-entries : (k : ℕ) (l : List ℕ) → 4 * k ≤ length l → numbers_of (entries_in k l) ≡ take (4 * k) l
unfolding entries_in numbers_of
numbers-entries zero l h = refl
numbers-entries (suc k) l h =
    let e : 4 * suc k ≡ 4 + 4 * k = omega arith in
    let h' : 4 * k ≤ length (drop 4 l) = rw length-drop (omega arith) in
    ap₂ (λ (x y : List ℕ). x ++ y) (entry-numbers l (omega arith)) (numbers-entries k (drop 4 l) h') ∙ sym (rw e (take-add 4 (4 * k) l))

-- ---- what is read where threads and entries were written

-- each thread has n names
abbrev pub Wide : ℕ → Config ℕ ℕ → Type 0
Wide n c = All (λ t. length t.env ≡ n) c

pub length-words : (n : ℕ) (c : Config ℕ ℕ) → Wide n c → length (words_of c) ≡ length c * (2 + n)
unfolding words_of
length-words n [] w = sym (zero-mul (2 + n))
length-words n (t ∷ c) w =
    let h = length-words n c w.1 in
    let e = w.0 in
    rw (length-append t.env (words_of c), h, e, suc-mul (length c) (2 + n)) (omega arith)

drop-words : (n : ℕ) (t : Thread ℕ ℕ) (l : List ℕ) → length t.env ≡ n → drop (2 + n) (thread_words t ++ l) ≡ l
drop-words n t l e = rw (two n) (drop_at t.env l n e)

read-words : (n : ℕ) (t : Thread ℕ ℕ) (l : List ℕ) → length t.env ≡ n → thread_in n (thread_words t ++ l) ≡ t
unfolding thread_in
read-words n t l e = let z = take_at t.env l n e in λ i. record { agent = t.agent; marker = t.marker; env = z i }

pub threads-words : (n : ℕ) (c : Config ℕ ℕ) (l : List ℕ) → Wide n c → threads_in n (length c) (words_of c ++ l) ≡ c
unfolding words_of threads_in
threads-words n [] l w = refl
threads-words n (t ∷ c) l w =
    let e : (thread_words t ++ words_of c) ++ l ≡ thread_words t ++ (words_of c ++ l) = append_assoc (thread_words t) (words_of c) l in
    ap₂ (λ (x : Thread ℕ ℕ) (y : Config ℕ ℕ). x ∷ y) (ap (thread_in n) e ∙ read-words n t (words_of c ++ l) w.0)
    (ap (λ (x : List ℕ). threads_in n (length c) (drop (2 + n) x)) e
    ∙ ap (threads_in n (length c)) (drop-words n t (words_of c ++ l) w.0)
    ∙ threads-words n c l w.1)

pub entries-numbers : (es : List Entry) (l : List ℕ) → entries_in (length es) (numbers_of es ++ l) ≡ es
unfolding numbers_of entries_in entry_in
entries-numbers [] l = refl
entries-numbers (e ∷ es) l = ap (λ (x : List Entry). e ∷ x) (entries-numbers es l)

-- threads read from a list that is long enough have n names each
pub threads-wide : (n k : ℕ) (l : List ℕ) → k * (2 + n) ≤ length l → Wide n (threads_in n k l)
unfolding threads_in thread_in
threads-wide n zero l h = tt
threads-wide n (suc k) l h =
    let e = suc-mul k (2 + n) in
    let g : n ≤ length (drop 2 l) = rw length-drop (omega arith) in
    let h' : k * (2 + n) ≤ length (drop (2 + n) l) = rw length-drop (omega arith) in
    (length-take-le n (drop 2 l) g, threads-wide n k (drop (2 + n) l) h')

-- ---- room

pub thread-room : (n k : ℕ) (l : List ℕ) → k ≤ thread_room n l → (k ≤ 256) × (k * (2 + n) ≤ length l)
thread-room n k l h =
    let g : k ≤ length l / (2 + n) = omega arith in
    (omega arith, (le-div_iff_mul-le {k = 2 + n} {x = k} {y = length l} (omega arith)).0 g)

pub marker-room : (k : ℕ) (l : List ℕ) → k ≤ marker_room l → (k ≤ 4096) × (4 * k ≤ length l)
marker-room k l h = (omega arith, omega arith)
