-- Threads in words: what stays after a step, and whether threads are well formed (refusal 23).
use Rattle.std.specs.Prelude.{ℕ, Bool, true, false, cond, not, ◌&&◌, ◌||◌, List, [], eqb, leb, get_or, take, drop}
use Rattle.laws.specs.Search.{every}
use Rattle.model.specs.Tree.{Array}
use Rattle.model.specs.Calculus.{Config}
use Rattle.model.specs.Numbers.{nobody}
use Rattle.model.specs.Memory.{new_in, marker_in, thread_formed}

-- "The sender goes; an in goes, a resource stays."
unfoldable pub remains : Bool → ℕ → ℕ → ℕ → Bool
remains resource r s i = not (eqb i s) && (resource || not (eqb i r))

-- the words at `from` where a thread stays, else none
abbrev pub words_if : Bool → ℕ → ℕ → List ℕ → List ℕ
words_if stays from width l = cond stays (take width (drop from l)) []

-- the model's `word_formed` for any test of a new
unfoldable pub word_ok : (ℕ → Bool) → ℕ → Bool → ℕ → Bool
word_ok news k true x = not (eqb x 0) && (news (new_in x) && leb (marker_in x) k)
word_ok news k false x = eqb x 0

-- the first k threads are well formed, where the marker count is `listed`
unfoldable pub threads_formed : Array → Config ℕ ℕ → ℕ → ℕ → Bool
threads_formed a c k listed = every k λ i. thread_formed a listed (get_or c i nobody)
