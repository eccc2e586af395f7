-- Node i of a file that was read, unfolded into words.
use Rattle.std.specs.Prelude.{ℕ, ◌+◌, ◌*◌, ◌≤◌, ◌<◌, min, ◌≡◌, List, [], length}
use Rattle.laws.specs.Lists.{put}
use Rattle.model.specs.Tree.{proc_at}
use Rattle.model.specs.Calculus.{Config, choices_of, unfold_proc}
use Rattle.model.specs.Memory.{words, words_of}
use Rattle.records.specs.declared.Trailer.{Trailer}
use Rattle.records.specs.Record.{array_of}
use Rattle.arrays.specs.File.{IsRead}
use Rattle.frees.specs.Frees.{AllFree}

-- what start, step and walk go by: a file that was read, the free names of its nodes, and 128 choice bytes
pub record Prepared (f : List ℕ) (t : Trailer) (frees choices : List ℕ) : Type 0 where
  pub read : IsRead f t
  pub rows : length frees ≡ 4096
  pub free : AllFree frees (array_of f t)
  pub chosen : length choices ≡ 128

-- node i is unfolded under marker number m, with the words e of all names, behind k threads; 257 stands for more than 256
pub record Unfolds (t : Trailer) (i m : ℕ) (e : List ℕ) (k : ℕ) : Type 0 where
  pub node : i < t.nodes
  pub marker : m < 65536
  pub names : length e ≡ t.names
  pub few : k ≤ 257

-- under marker number m, with the names' words e; unfolding makes no marker, so the entries do not matter
unfoldable pub unfolded : List ℕ → Trailer → List ℕ → ℕ → ℕ → List ℕ → Config ℕ ℕ
unfolded s t choices i m e = unfold_proc (words []) (choices_of choices) m e (proc_at (array_of s t) i)

-- what writing threads c of w words each behind k others leaves: their number added, and their words in place, where there is room
-- for them
pub record Written (w : ℕ) (c : Config ℕ ℕ) (l l' : List ℕ) (k end : ℕ) : Type 0 where
  pub counted : end ≡ min 257 (k + length c)
  pub placed : k + length c ≤ 256 → (k + length c) * w ≤ length l → l' ≡ put (k * w) (words_of c) l
