-- What a chain over the threads of a list gives: the words of each thread, one after another.
use Prim.Native.Nat.{ℕ, zero, suc, ◌+◌, ◌*◌, ◌/◌, ◌<◌}
use native.Mathlib.Nat.{suc-mul, add-div_left, div-eq_of_lt}
use native.Mathlib.Numerals.{add-one}
use native.Mathlib.Omega.{arith}
use mathlib.Core.Path.{◌≡◌, refl, sym, ap, ap₂, ◌∙◌}
use mathlib.Core.Bool.{◌&&◌}
use mathlib.Core.List.{List, ◌∷◌, ◌++◌}
use lib.ListN.{length, get_or, take, drop, length-append}
use lib.Seq.{take-take, take-append_seam, drop-append_seam}
use Rattle.std.proofs.lemmas.List.{drop-take}
use Rattle.std.specs.List.{list_all}
use Rattle.std.specs.Simd.{first_chunks}
use Rattle.std.specs.Slice.Iter.{chunks_exact_steps, chunks_exact_rest, chunks_exact_size}
use Rattle.std.proofs.lemmas.Iterator.{YieldsList}
use Rattle.std.proofs.lemmas.Iterator.Splits.{YieldsList-from_shown_while}
use Rattle.laws.proofs.Search.{every-zero, every-cons}
use Rattle.model.specs.Tree.{Array}
use Rattle.model.specs.Numbers.{nobody}
use Rattle.model.specs.Memory.{thread_in, threads_in, thread_formed}
use Rattle.threads.specs.Threads.{threads_formed}
use Rattle.threads.proofs.Laws.{thread_cut}

-- ---- the chain's parts

none-left : (w : ℕ) (l : List ℕ) → length l < w → length (first_chunks w (length l / w) l) ≡ 0
none-left w l h = rw (div-eq_of_lt h)

one-part : (w : ℕ) (x l rest : List ℕ) → 0 < w → l ≡ x ++ rest → length x ≡ w
    → first_chunks w (length l / w) l ≡ x ∷ first_chunks w (length rest / w) rest
one-part w x l rest h e n =
    let m : length l / w ≡ suc (length rest / w) =
    ap (λ (k : ℕ). k / w) (ap length e ∙ length-append x rest ∙ ap (λ (k : ℕ). k + length rest) n) ∙ add-div_left (length rest) h ∙ add-one _ in
    let first : take w (x ++ rest) ≡ x = ap (λ (k : ℕ). take k (x ++ rest)) (sym n) ∙ take-append_seam x rest in
    let others : drop w (x ++ rest) ≡ rest = ap (λ (k : ℕ). drop k (x ++ rest)) (sym n) ∙ drop-append_seam x rest in
    rw (m, e, first, others)

-- what is left is yielded part by part
pub chunks_yield : {s : _} (w k : ℕ) (l : List ℕ) → 0 < w → chunks_exact_size s ≡ w → chunks_exact_rest s ≡ l → length l / w ≡ k
    → YieldsList (chunks_exact_steps {A = ℕ}) (λ y. y.now) s (first_chunks w k l)
chunks_yield {s} w k l h size rest n =
    rw (← n, ← rest, ← size)
    (YieldsList-from_shown_while chunks_exact_steps (λ y. y.now)
    (λ t. first_chunks (chunks_exact_size t) (length (chunks_exact_rest t) / chunks_exact_size t) (chunks_exact_rest t)) (λ t. 0 < chunks_exact_size t)
    (λ t u p q. none-left _ _ q.1.0)
    (λ t x u p q. (rw q.0 p, rw q.0 (one-part _ x.now _ (chunks_exact_rest u) p q.1.0 q.1.1)))
    s (rw size h))

-- parts of words past those that are parted
front-parts : (w k : ℕ) (l : List ℕ) → first_chunks w k (take (k * w) l) ≡ first_chunks w k l
front-parts w zero l = refl
front-parts w (suc k) l =
    let n : suc k * w ≡ w + k * w = suc-mul k w ∙ omega arith in
    ap₂ ◌∷◌ (take-take w (suc k * w) l (omega arith)) (rw (n, drop-take) (front-parts w k (drop w l)))

-- ---- each part is a thread's words

parts-formed : (a : Array) (listed k : ℕ) (l : List ℕ)
    → list_all (λ t. thread_formed a listed (thread_in a.names t)) (first_chunks (2 + a.names) k l) ≡ threads_formed a (threads_in a.names k l) k listed
unfolding threads_formed threads_in
parts-formed a listed zero l = sym (every-zero _)
parts-formed a listed (suc k) l =
    ap₂ ◌&&◌ (ap (thread_formed a listed) (thread_cut a.names l)) (parts-formed a listed k (drop (2 + a.names) l))
    ∙ sym (every-cons k (λ i. thread_formed a listed (get_or (threads_in a.names (suc k) l) i nobody)))

-- all of the first k threads, as a chain over the list's parts tells it
pub told : (a : Array) (listed k : ℕ) (l : List ℕ)
    → list_all (λ t. thread_formed a listed (thread_in a.names t)) (first_chunks (2 + a.names) k (take (k * (2 + a.names)) l))
    ≡ threads_formed a (threads_in a.names k l) k listed
told a listed k l = rw (front-parts (2 + a.names) k l) (parts-formed a listed k l)
