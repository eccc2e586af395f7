-- Unfolding node by node: what each kind of node unfolds to, and how the words of threads are written behind each other.
use Prim.Native.Nat.{ℕ, suc, ◌+◌, ◌*◌, ◌≤◌, ◌<◌, min}
use native.Mathlib.Nat.{add-zero, add-mul, mul-le-mul_right}
use native.Mathlib.Numerals.{add-one}
use native.Mathlib.Omega.{arith}
use mathlib.Core.Path.{◌≡◌, refl, sym, ap, ap₂, ◌∙◌, subst}
use mathlib.Core.Bool.{Bool, true, false, cond}
use mathlib.Core.List.{List, [], ◌∷◌, ◌++◌, append-nil}
use lib.ListN.{length, get_or, set, take, length-append, length-set}
use lib.Seq.{take-suc, set-set, set-get_or, length-take-le}
use Rattle.laws.specs.Lists.{put}
use Rattle.laws.proofs.Search.{or_right}
use Rattle.laws.proofs.Lists.{All-append}
use Rattle.laws.proofs.Put.{put-nil, put-put, set-put, set-as-put}
use Rattle.marks.specs.Marks.{marked}
use Rattle.model.specs.Tree.{Node, is_agent, Proc, grow, proc_at, is_free}
use Rattle.model.specs.Calculus.{Notation, Choices, Config, choices_of, cut_from, unfold_proc}
use Rattle.model.specs.Memory.{words, words_of, opening}
use Rattle.model.proofs.Tree.{proc_at-grow}
use Rattle.model.proofs.Threads.{length_cut}
use Rattle.model.proofs.Memory.{words_append, Wide, length-words, next-slot}
use Rattle.records.specs.declared.Record.{Record}
use Rattle.records.specs.declared.Trailer.{Trailer}
use Rattle.records.specs.Record.{node_of, array_of}
use Rattle.records.specs.Kinds.{is_stop, is_new_node, is_par, is_choice}
use Rattle.records.proofs.KindLaws as K
use Rattle.arrays.specs.File.{IsRead}
use Rattle.arrays.specs.Agents.{Reads}
use Rattle.arrays.proofs.Agents.{node-is, left-above, right-above}
use Rattle.frees.specs.Frees.{AllFree}
use Rattle.unfolds.specs.Unfold.{Unfolds, unfolded, Written}

-- ---- how many words

-- each thread has as many names as the environment
module _ (N : Notation ℕ ℕ) (ch : Choices) (m : ℕ) where
  wide-unfold : (e : List ℕ) (p : Proc) → Wide (length e) (unfold_proc N ch m e p)
  unfolding unfold_proc
  wide-unfold e Proc.stop = tt
  wide-unfold e (Proc.new n p) =
      let d = set e n (N.holds n m) in
      subst (λ (k : ℕ). Wide k (unfold_proc N ch m d p)) (length-set e n _) (wide-unfold d p)
  wide-unfold e (Proc.par p q) = All-append (λ t. length t.env ≡ length e) (unfold_proc N ch m e p) _ (wide-unfold e p) (wide-unfold e q)
  wide-unfold e (Proc.choice i p q) = pick (ch i) (wide-unfold e p) (wide-unfold e q)
    where
      pick : (b : Bool) → Wide (length e) (unfold_proc N ch m e p) → Wide (length e) (unfold_proc N ch m e q)
          → Wide (length e) (cond b (unfold_proc N ch m e q) (unfold_proc N ch m e p))
      pick true g h = h
      pick false g h = g
  wide-unfold e (Proc.agent i s x ys p) = (length_cut N (is_free (Proc.agent i s x ys p)) 0 e, tt)

pub wide-unfolded : (s : List ℕ) (t : Trailer) (choices : List ℕ) (i m : ℕ) (e : List ℕ) → length e ≡ t.names
    → Wide t.names (unfolded s t choices i m e)
unfolding unfolded
wide-unfolded s t choices i m e h =
    subst (λ (n : ℕ). Wide n (unfolded s t choices i m e)) h (wide-unfold (words []) (choices_of choices) m e (proc_at (array_of s t) i))

-- ---- an environment cut to the free names

module _ {X C : Type 0} (N : Notation X C) where
  -- only the names of the environment matter
  cut-same : (f g : ℕ → Bool) (u : ℕ) (e : List C) → ((v : ℕ) → u ≤ v → v < u + length e → f v ≡ g v) → cut_from N f u e ≡ cut_from N g u e
  unfolding cut_from
  cut-same f g u [] h = refl
  cut-same f g u (c ∷ e) h =
      ap₂ (λ (b : Bool) (cs : List C). cond b c N.unheld ∷ cs) (h u (omega arith) (omega arith))
      (cut-same f g (suc u) e (λ v l k. h v (omega arith) (omega arith)))

  cut-append : (f : ℕ → Bool) (u : ℕ) (e d : List C) → cut_from N f u (e ++ d) ≡ cut_from N f u e ++ cut_from N f (u + length e) d
  unfolding cut_from
  cut-append f u [] d = rw add-zero
  cut-append f u (c ∷ e) d =
      let q : suc u + length e ≡ u + suc (length e) = omega arith in
      ap (λ (cs : List C). cond (f u) c N.unheld ∷ cs) (cut-append f (suc u) e d ∙ ap (λ (k : ℕ). cut_from N f (suc u) e ++ cut_from N f k d) q)

-- the words of the first v names written from `at` on: none, and one more
module _ (f : ℕ → Bool) (e l : List ℕ) (at : ℕ) where
  pub names-none : l ≡ put at (cut_from (words []) f 0 (take 0 e)) l
  unfolding cut_from
  names-none = sym (put-nil at l)

  pub names_more : (v : ℕ) → v < length e → at + v < length l
      → set (put at (cut_from (words []) f 0 (take v e)) l) (at + v) (cond (f v) (get_or e v 0) 0) ≡ put at (cut_from (words []) f 0 (take (v + 1) e)) l
  unfolding cut_from words
  names_more v h k =
      let n : length (take v e) ≡ v = length-take-le v e (omega arith) in
      let c : length (cut_from (words []) f 0 (take v e)) ≡ v = length_cut (words []) f 0 (take v e) ∙ n in
      let q : 0 + length (take v e) ≡ v = omega arith in
      ap (λ (j : ℕ). set (put at (cut_from (words []) f 0 (take v e)) l) (at + j) (cond (f v) (get_or e v 0) 0)) (sym c)
      ∙ set-put at (cut_from (words []) f 0 (take v e)) l (omega arith) (cond (f v) (get_or e v 0) 0) (omega arith)
      ∙ ap (λ (j : ℕ). put at (cut_from (words []) f 0 (take v e) ++ (cond (f j) (get_or e v 0) 0 ∷ [])) l) (sym q)
      ∙ ap (λ (xs : List ℕ). put at xs l) (sym (cut-append (words []) f 0 (take v e) (get_or e v 0 ∷ [])))
      ∙ ap (λ (d : List ℕ). put at (cut_from (words []) f 0 d) l) (sym (ap (λ (j : ℕ). take j e) (add-one v) ∙ take-suc e v 0 h))

-- a node, a marker and the names' words behind them
pub thread-put : (at a b : ℕ) (xs l : List ℕ) → at + 2 + length xs ≤ length l
    → put (at + 2) xs (set (set l at a) (at + 1) b) ≡ put at (a ∷ b ∷ xs) l
thread-put at a b xs l h =
    ap (λ (k : List ℕ). put (at + 2) xs (set k (at + 1) b)) (set-as-put l at a (omega arith))
    ∙ ap (λ (k : List ℕ). put (at + 2) xs k) (set-put at (a ∷ []) l (omega arith) b (omega arith))
    ∙ put-put at (a ∷ b ∷ []) l (omega arith) xs

-- ---- what node i unfolds to, by its node

-- node i of file s, which was read, has record r
abbrev pub Stands : List ℕ → Trailer → ℕ → Record → Type 0
Stands s t i r = IsRead s t × Reads s t i r

module _ {s : List ℕ} {t : Trailer} {i : ℕ} {r : Record} (a : Stands s t i r) where
  -- the tree at i, grown from its node
  grown : (v : Node) → node_of r ≡ v → proc_at (array_of s t) i ≡ grow i (λ l. proc_at (array_of s t) l) v
  grown v q =
      proc_at-grow (array_of s t) a.0.formed.children i a.1.below ∙ ap (grow i (λ l. proc_at (array_of s t) l)) (node-is a.0 a.1 ∙ q)

  -- the child that a choice goes to lies above it
  pub side-above : is_choice (node_of r) ≡ true → (b : Bool) → (i < cond b r.right r.left) × (cond b r.right r.left < t.nodes)
  unfolding is_stop
  side-above k true = right-above a.0 a.1 (or_right (is_par (node_of r)) _ k)
  side-above k false = left-above a.0 a.1 (ap is_stop (K.choice-is r k))

  module _ (ch : List ℕ) (m : ℕ) (env : List ℕ) where
    by-node : (v : Node) → node_of r ≡ v
        → unfolded s t ch i m env ≡ unfold_proc (words []) (choices_of ch) m env (grow i (λ l. proc_at (array_of s t) l) v)
    unfolding unfolded
    by-node v q = ap (unfold_proc (words []) (choices_of ch) m env) (grown v q)

    pub unfolded-stop : is_stop (node_of r) ≡ true → unfolded s t ch i m env ≡ []
    unfolding grow unfold_proc
    unfolded-stop k = by-node Node.stop (K.stop_is r k)

    pub unfolded-new : is_new_node (node_of r) ≡ true
        → unfolded s t ch i m env ≡ unfolded s t ch r.left m (set env r.name (opening r.name m))
    unfolding unfolded grow unfold_proc words
    unfolded-new k = by-node _ (K.new_is r k)

    pub unfolded-par : is_par (node_of r) ≡ true → unfolded s t ch i m env ≡ unfolded s t ch r.left m env ++ unfolded s t ch r.right m env
    unfolding unfolded grow unfold_proc
    unfolded-par k = by-node _ (K.par-is r k)

    pub unfolded-choice : is_choice (node_of r) ≡ true
        → unfolded s t ch i m env ≡ unfolded s t ch (cond (choices_of ch i) r.right r.left) m env
    unfolding unfolded grow unfold_proc
    unfolded-choice k = by-node _ (K.choice-is r k) ∙ pick (choices_of ch i)
      where
        leaves : ℕ → Config ℕ ℕ
        leaves l = unfold_proc (words []) (choices_of ch) m env (proc_at (array_of s t) l)

        pick : (b : Bool) → cond b (leaves r.right) (leaves r.left) ≡ leaves (cond b r.right r.left)
        pick true = refl
        pick false = refl

    abbrev one-thread : Proc → Config ℕ ℕ
    one-thread p = record { agent = i; marker = m; env = cut_from (words []) (is_free p) 0 env } ∷ []

    unfolded-agent : is_agent (node_of r) ≡ true → unfolded s t ch i m env ≡ one-thread (proc_at (array_of s t) i)
    unfolding grow unfold_proc
    unfolded-agent k = by-node _ (K.agent-is r k) ∙ sym (ap one-thread (grown _ (K.agent-is r k)))

    -- an agent's thread, its names cut by its row of marks, written where there is room
    pub written-agent : is_agent (node_of r) ≡ true → length env ≡ t.names → (frees : List ℕ) {l l' : List ℕ} {k end : ℕ} → AllFree frees (array_of s t)
        → (k * (2 + length env) + (2 + length env) ≤ length l
        → l' ≡ put (k * (2 + length env)) (i ∷ m ∷ cut_from (words []) (marked frees i) 0 env) l)
        → end ≡ min 257 (k + 1) → Written (2 + t.names) (unfolded s t ch i m env) l l' k end
    unfolding words_of
    written-agent g names frees {l} {l'} {k} {end} free placed e =
        let few = a.0.formed.few_names in
        let one : length (unfolded s t ch i m env) ≡ 1 = ap length (unfolded-agent g) in
        let ws : words_of (unfolded s t ch i m env) ≡ i ∷ m ∷ cut_from (words []) (marked frees i) 0 env =
        ap words_of (unfolded-agent g) ∙ append-nil (i ∷ m ∷ cut_from (words []) (is_free (proc_at (array_of s t) i)) 0 env)
        ∙ ap (λ (xs : List ℕ). i ∷ m ∷ xs) (cut-same (words []) _ _ 0 env (λ v h j. sym (free i v a.1.below (omega arith)))) in
        record {
          counted = rw one e;
          placed = λ h room.
              rw (ws, ← names) (placed (rw names (rw (one, ← next-slot t.names k) at room)));
        }

-- ---- what an unfolding asks and leaves

-- a child in place of its parent
pub below : {t : Trailer} {i m k j o : ℕ} {e d : List ℕ} → Unfolds t i m e k → j < t.nodes → length d ≡ length e → o ≤ 257 → Unfolds t j m d o
below u h same few = record { node = h; marker = u.marker; names = same ∙ u.names; few = few }

pub written_none : {w k : ℕ} {l : List ℕ} {c : Config ℕ ℕ} → c ≡ [] → k ≤ 257 → Written w c l l k k
unfolding words_of
written_none e h = record { counted = rw e (omega arith); placed = λ few room. rw e (sym (put-nil _ _)) }

pub written_same : {w k end : ℕ} {c d : Config ℕ ℕ} {l l' : List ℕ} → Written w c l l' k end → d ≡ c → Written w d l l' k end
written_same x e = rw e x

-- a name that was set is put back
pub restored : (env : List ℕ) (v x : ℕ) {env' : List ℕ} → env' ≡ set env v x → set env' v (get_or env v 0) ≡ env
restored env v x e = ap (λ (d : List ℕ). set d v (get_or env v 0)) e ∙ set-set env v x (get_or env v 0) ∙ set-get_or env v 0

-- threads, and more right behind them
pub written_both : (n : ℕ) {k mid end : ℕ} {c d : Config ℕ ℕ} {l l₁ l₂ : List ℕ} → Wide n c → length l₁ ≡ length l
    → Written (2 + n) c l l₁ k mid → Written (2 + n) d l₁ l₂ mid end → Written (2 + n) (c ++ d) l l₂ k end
written_both n {k} {mid} {end} {c} {d} {l} {l₁} {l₂} wide same x y =
    let both = length-append c d in
    record {
      counted = omega (arith, x.counted, y.counted);
      placed = λ few room.
          let here : mid ≡ k + length c = omega (arith, x.counted) in
          let all : mid + length d ≡ k + length (c ++ d) = omega arith in
          let first : (k + length c) * (2 + n) ≤ (k + length (c ++ d)) * (2 + n) = mul-le-mul_right (2 + n) (omega arith) in
          let size = length-words n c wide in
          let at : (k + length c) * (2 + n) ≡ k * (2 + n) + length (words_of c) = add-mul k (length c) (2 + n) ∙ rw size in
          y.placed (omega arith) (rw (all, same) room)
          ∙ rw (here, at, x.placed (omega arith) (omega arith), words_append) (put-put (k * (2 + n)) (words_of c) l (omega arith) (words_of d));
    }
