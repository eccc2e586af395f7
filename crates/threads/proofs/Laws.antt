-- Parameters bound from the last to the first, and threads that are well formed.
use Prim.Native.Nat.{ℕ, suc, ◌+◌, ◌≤◌, ◌<◌}
use native.Mathlib.Omega.{arith}
use mathlib.Core.Path.{◌≡◌, refl, sym, ap, ap₂, ◌∙◌}
use mathlib.Core.Bool.{Bool, true, false, not, ◌&&◌}
use mathlib.Core.List.{List, [], map}
use lib.Dec.{eqb, leb}
use lib.ListN.{length, get_or, set, take, drop, length-map, drop_of_length-le}
use lib.Seq.{drop-cons, get_or-take, get_or-drop, take-take, length-take-le}
use Rattle.std.proofs.lemmas.List.{drop-take}
use borrow.Author.Tests.{le-leb, lt-leb}
use Rattle.laws.specs.Search.{every}
use Rattle.laws.proofs.Search.{every-same}
use Rattle.laws.proofs.Lists.{get_d_map}
use Rattle.marks.specs.Marks.{marked}
use Rattle.model.specs.Tree.{Array, node_at, is_agent, is_new, proc_at, is_free}
use Rattle.model.specs.Calculus.{bind}
use Rattle.model.specs.Memory.{new_in, marker_in, thread_in, word_formed, thread_formed}
use Rattle.model.proofs.Memory.{agent-word, marker-word, name-word}
use Rattle.frees.specs.Frees.{AllFree}
use Rattle.threads.specs.Threads.{word_ok}

-- ---- parameters

-- what is bound from parameter k on: the first n of `params` take what `sent` has for the first n of `args`
abbrev pub bound_from : ℕ → ℕ → List ℕ → List ℕ → List ℕ → List ℕ → List ℕ
bound_from k n params args sent env = bind (drop k (take n params)) (drop k (map (λ z. get_or sent z 0) (take n args))) env

pub bound-none : (n : ℕ) (params args sent env : List ℕ) → n ≤ length params → bound_from n n params args sent env ≡ env
unfolding bind
bound-none n params args sent env h =
    let e = length-take-le n params h in
    let short : length (take n params) ≤ n = omega arith in
    let d : drop n (take n params) ≡ [] = drop_of_length-le (take n params) short in
    rw d

pub bound-turn : (k n : ℕ) (params args sent env : List ℕ) → k < n → n ≤ length params → n ≤ length args
    → bound_from k n params args sent env ≡ set (bound_from (suc k) n params args sent env) (get_or params k 0) (get_or sent (get_or args k 0) 0)
unfolding bind
bound-turn k n params args sent env h hp ha =
    let ys = take n params in
    let zs = take n args in
    let cs = map (λ z. get_or sent z 0) zs in
    let lp = length-take-le n params hp in
    let la = length-take-le n args ha in
    let lc : length cs ≡ length zs = length-map zs (λ z. get_or sent z 0) in
    let c : get_or cs k 0 ≡ get_or sent (get_or args k 0) 0 =
    get_d_map (λ z. get_or sent z 0) zs k 0 0 (omega arith) ∙ ap (λ (z : ℕ). get_or sent z 0) (get_or-take n args k 0 h) in
    ap₂ (λ (a b : List ℕ). bind a b env) (drop-cons ys k 0 (omega arith)) (drop-cons cs k 0 (omega arith))
    ∙ ap₂ (λ (y x : ℕ). set (bind (drop (suc k) ys) (drop (suc k) cs) env) y x) (get_or-take n params k 0 h) c

-- ---- well formed

word_same : (a : Array) (news : ℕ → Bool) (k : ℕ) (free : Bool) (x : ℕ) → ((o : ℕ) → news o ≡ is_new a o) → word_ok news k free x ≡ word_formed a k free x
unfolding word_ok word_formed
word_same a news k true x h = ap (λ (b : Bool). not (eqb x 0) && (b && leb (marker_in x) k)) (h (new_in x))
word_same a news k false x h = refl

-- the thread of words l, with agent i
module _ (a : Array) (k : ℕ) (l : List ℕ) (i : ℕ) (here : i ≡ get_or l 0 0) where
  -- the words of the thread's names are well formed
  abbrev names_test : Bool
  names_test = every a.names (λ v. word_formed a k (is_free (proc_at a i) v) (get_or l (2 + v) 0))

  by-words : thread_formed a k (thread_in a.names l) ≡ is_agent (node_at a i) && (leb (get_or l 1 0) k && names_test)
  unfolding thread_formed
  by-words =
      let it = thread_in a.names l in
      let n : it.agent ≡ i = agent-word a.names 0 l ∙ sym here in
      ap₂ (λ (j x : ℕ). is_agent (node_at a j) && (leb x k && every a.names (λ v. word_formed a k (is_free (proc_at a j) v) (get_or it.env v 0)))) n
      (marker-word a.names 0 l)
      ∙ ap (λ (b : Bool). is_agent (node_at a i) && (leb (get_or l 1 0) k && b))
      (every-same a.names _ _ (λ v h. ap (λ (x : ℕ). word_formed a k (is_free (proc_at a i) v) x) (name-word a.names 0 l v h)))

  pub no-agent : false ≡ is_agent (node_at a i) → false ≡ thread_formed a k (thread_in a.names l)
  no-agent e = sym (by-words ∙ ap (λ (b : Bool). b && (leb (get_or l 1 0) k && names_test)) (sym e))

  module _ (agent : is_agent (node_at a i) ≡ true) where
    pub marker-past : k < get_or l 1 0 → false ≡ thread_formed a k (thread_in a.names l)
    marker-past h = sym (by-words ∙ ap₂ (λ (b d : Bool). b && (d && names_test)) agent (lt-leb (get_or l 1 0) k h))

    pub names-tell : (frees news words : List ℕ) → AllFree frees a → ((o : ℕ) → marked news 0 o ≡ is_new a o) → i < a.size → a.names ≤ 256 → get_or l 1 0 ≤ k
        → words ≡ drop 2 l → length words ≡ a.names
        → every (length words) (λ v. word_ok (marked news 0) k (marked frees i v) (get_or words v 0)) ≡ thread_formed a k (thread_in a.names l)
    names-tell frees news words free new h few m e n =
        ap (λ (j : ℕ). every j (λ v. word_ok (marked news 0) k (marked frees i v) (get_or words v 0))) n
        ∙ every-same a.names _ _
        (λ v lt. word_same a (marked news 0) k (marked frees i v) (get_or words v 0) new
        ∙ ap₂ (λ (b : Bool) (x : ℕ). word_formed a k b x) (free i v h (omega arith)) (ap (λ (t : List ℕ). get_or t v 0) e ∙ get_or-drop 2 l v 0))
        ∙ sym (by-words ∙ ap₂ (λ (b d : Bool). b && (d && names_test)) agent (le-leb (get_or l 1 0) k m))

-- a thread's words cut out of a list
pub thread_cut : (n : ℕ) (l : List ℕ) → thread_in n (take (2 + n) l) ≡ thread_in n l
unfolding thread_in
thread_cut n l =
    simp (get_or-take (2 + n) l 0 0 (omega arith), get_or-take (2 + n) l 1 0 (omega arith), drop-take 2 n l)
    (ap (λ (xs : List ℕ). record { agent = get_or l 0 0; marker = get_or l 1 0; env = xs }) (take-take n n (drop 2 l) (omega arith)))
