-- Threads: sums over a configuration, what stays and what goes, and the cells of a thread.
use Prim.Native.Nat.{ℕ, zero, suc, ◌+◌, ◌*◌, ◌≤◌, ◌<◌, max, zero-le}
use native.Mathlib.Nat.{not-suc-le-zero, suc_inj, le_of_suc-le-suc, mul-add, add-zero, zero-add}
use native.Mathlib.Omega.{arith}
use mathlib.Core.Path.{◌≡◌, refl, ap, ◌∙◌}
use mathlib.Core.Logic.{◌≢◌}
use mathlib.Core.Bool.{Bool, true, false, cond}
use mathlib.Core.List.{List, [], ◌∷◌, ◌++◌}
use lib.ListN.{length, get_or, set, take, length-set}
use Rattle.laws.specs.Lists.{All, one}
use Rattle.model.specs.Tree.{Proc, stop, new, par, choice, agent, load}
use Rattle.model.specs.Calculus.{Notation, Choices, Thread, Config, cut_from, unfold_proc, bind, keep}
use Rattle.model.specs.Safe.{total, weighed, count}

module _ {X C : Type 0} where
  -- ---- sums

  pub total-append : (w : Thread X C → ℕ) (c d : Config X C) → total w (c ++ d) ≡ total w c + total w d
  unfolding total
  total-append w [] d = omega arith
  total-append w (t ∷ c) d = let e = total-append w c d in omega arith

  pub weighed-unfold : (N : Notation X C) (w : ℕ → ℕ) (ch : Choices) (m : X) (e : List C) (p : Proc) → weighed w (unfold_proc N ch m e p) ≤ load w p
  unfolding total unfold_proc load
  weighed-unfold N w ch m e stop = zero-le
  weighed-unfold N w ch m e (new n p) = weighed-unfold N w ch m (set e n (N.holds n m)) p
  weighed-unfold N w ch m e (par p q) =
      let h = weighed-unfold N w ch m e p in let k = weighed-unfold N w ch m e q in
      rw total-append (omega arith)
  weighed-unfold N w ch m e (choice i p q) = pick (ch i) (weighed-unfold N w ch m e p) (weighed-unfold N w ch m e q)
    where
      pick : (b : Bool) → weighed w (unfold_proc N ch m e p) ≤ load w p → weighed w (unfold_proc N ch m e q) ≤ load w q
          → weighed w (cond b (unfold_proc N ch m e q) (unfold_proc N ch m e p)) ≤ max (load w p) (load w q)
      pick true h k = omega arith
      pick false h k = omega arith
  weighed-unfold N w ch m e (agent i s x ys p) = omega arith

  -- where each agent that passes, taken K times, weighs B or more, so does each of its threads
  pub count-weighed : (w : ℕ → ℕ) (f : ℕ → Bool) (B K : ℕ) → ((i : ℕ) → f i ≡ true → B ≤ K * w i) → (c : Config X C) → B * count f c ≤ K * weighed w c
  unfolding total one
  count-weighed w f B K h [] = omega arith
  count-weighed w f B K h (t ∷ c) = go (f t.agent) refl (count-weighed w f B K h c)
    where
      go : (b : Bool) → f t.agent ≡ b → B * count f c ≤ K * weighed w c → B * (one b + count f c) ≤ K * (w t.agent + weighed w c)
      go true e l = let k = h t.agent e in rw (mul-add B, mul-add K) (omega arith)
      go false e l = rw (mul-add B, mul-add K) (omega arith)

  -- ---- what stays

  pub keep_all : (P : Thread X C → Type 0) (f : ℕ → Bool) (c : Config X C) → All P c → All P (keep f c)
  unfolding keep
  keep_all P f [] h = tt
  keep_all P f (t ∷ c) h = go (f 0) (keep_all P (λ i. f (suc i)) c h.1)
    where
      go : (b : Bool) → All P (keep (λ i. f (suc i)) c) → All P (cond b (t ∷ keep (λ i. f (suc i)) c) (keep (λ i. f (suc i)) c))
      go true k = (h.0, k)
      go false k = k

  -- one thread more: it comes last where it stays
  pub keep-next : (d : Thread X C) (f : ℕ → Bool) (c : Config X C) (i : ℕ) → i < length c
      → keep f (take (suc i) c) ≡ keep f (take i c) ++ cond (f i) (get_or c i d ∷ []) []
  unfolding keep
  keep-next d f [] i h = absurd (not-suc-le-zero h)
  keep-next d f (t ∷ c) zero h = refl
  keep-next d f (t ∷ c) (suc i) h = go (f 0) (keep-next d (λ j. f (suc j)) c i (le_of_suc-le-suc h))
    where
      go : (b : Bool) → keep (λ j. f (suc j)) (take (suc i) c) ≡ keep (λ j. f (suc j)) (take i c) ++ cond (f (suc i)) (get_or c i d ∷ []) []
          → cond b (t ∷ keep (λ j. f (suc j)) (take (suc i) c)) (keep (λ j. f (suc j)) (take (suc i) c))
          ≡ cond b (t ∷ keep (λ j. f (suc j)) (take i c)) (keep (λ j. f (suc j)) (take i c)) ++ cond (f (suc i)) (get_or c i d ∷ []) []
      go true e = ap (λ (z : Config X C). t ∷ z) e
      go false e = e

  module _ (w : Thread X C → ℕ) (d : Thread X C) where
    -- everything stays
    pub keep-every : (f : ℕ → Bool) (c : Config X C) → ((i : ℕ) → f i ≡ true) → total w (keep f c) ≡ total w c
    unfolding keep total
    keep-every f [] h = refl
    keep-every f (t ∷ c) h = rw (h 0) (let k = keep-every (λ i. f (suc i)) c (λ i. h (suc i)) in omega arith)

    -- what stays and the one that goes
    pub keep_one : (f : ℕ → Bool) (c : Config X C) (s : ℕ) → s < length c → f s ≡ false → ((i : ℕ) → i ≢ s → f i ≡ true)
        → total w (keep f c) + w (get_or c s d) ≡ total w c
    unfolding keep total
    keep_one f [] s h e o = absurd (not-suc-le-zero h)
    keep_one f (t ∷ c) zero h e o = rw e (let k = keep-every (λ i. f (suc i)) c (λ i. o (suc i) (λ z. absurd (omega arith))) in omega arith)
    keep_one f (t ∷ c) (suc s) h e o =
        rw (o 0 (λ z. absurd (omega arith)))
        (let k = keep_one (λ i. f (suc i)) c s (le_of_suc-le-suc h) e (λ i n. o (suc i) (λ z. n (suc_inj z))) in omega arith)

    -- what stays and the two that go
    pub keep_two : (f : ℕ → Bool) (c : Config X C) (r s : ℕ) → r ≢ s → r < length c → s < length c → f r ≡ false → f s ≡ false
        → ((i : ℕ) → i ≢ r → i ≢ s → f i ≡ true) → total w (keep f c) + w (get_or c r d) + w (get_or c s d) ≡ total w c
    unfolding keep total
    keep_two f [] r s n hr hs er es o = absurd (not-suc-le-zero hr)
    keep_two f (t ∷ c) zero zero n hr hs er es o = absurd (n refl)
    keep_two f (t ∷ c) zero (suc s) n hr hs er es o =
        rw er
        (let k = keep_one (λ i. f (suc i)) c s (le_of_suc-le-suc hs) es (λ i u. o (suc i) (λ z. absurd (omega arith)) (λ z. u (suc_inj z))) in omega arith)
    keep_two f (t ∷ c) (suc r) zero n hr hs er es o =
        rw es
        (let k = keep_one (λ i. f (suc i)) c r (le_of_suc-le-suc hr) er (λ i u. o (suc i) (λ z. u (suc_inj z)) (λ z. absurd (omega arith))) in omega arith)
    keep_two f (t ∷ c) (suc r) (suc s) n hr hs er es o =
        rw (o 0 (λ z. absurd (omega arith)) (λ z. absurd (omega arith)))
        (let k = keep_two (λ i. f (suc i)) c r s (λ e. n (ap suc e)) (le_of_suc-le-suc hr) (le_of_suc-le-suc hs) er es
        (λ i u v. o (suc i) (λ z. u (suc_inj z)) (λ z. v (suc_inj z))) in omega arith)

    pub one-le : (c : Config X C) (s : ℕ) → s < length c → w (get_or c s d) ≤ total w c
    unfolding total
    one-le [] s h = absurd (not-suc-le-zero h)
    one-le (t ∷ c) zero h = omega arith
    one-le (t ∷ c) (suc s) h = let k = one-le c s (le_of_suc-le-suc h) in omega arith

    -- two threads that differ weigh no more than all
    pub two-le : (c : Config X C) (r s : ℕ) → r ≢ s → r < length c → s < length c → w (get_or c r d) + w (get_or c s d) ≤ total w c
    unfolding total
    two-le [] r s n hr hs = absurd (not-suc-le-zero hr)
    two-le (t ∷ c) zero zero n hr hs = absurd (n refl)
    two-le (t ∷ c) zero (suc s) n hr hs = let k = one-le c s (le_of_suc-le-suc hs) in omega arith
    two-le (t ∷ c) (suc r) zero n hr hs = let k = one-le c r (le_of_suc-le-suc hr) in omega arith
    two-le (t ∷ c) (suc r) (suc s) n hr hs = let k = two-le c r s (λ e. n (ap suc e)) (le_of_suc-le-suc hr) (le_of_suc-le-suc hs) in omega arith

  -- ---- cells

  pub length_cut : (N : Notation X C) (f : ℕ → Bool) (v : ℕ) (e : List C) → length (cut_from N f v e) ≡ length e
  unfolding cut_from
  length_cut N f v [] = refl
  length_cut N f v (c ∷ e) = ap suc (length_cut N f (suc v) e)

  slice_index-cut_from : (N : Notation X C) (f : ℕ → Bool) (u v : ℕ) (e : List C) → f (u + v) ≡ true → get_or (cut_from N f u e) v N.unheld ≡ get_or e v N.unheld
  unfolding cut_from
  slice_index-cut_from N f u v [] h = refl
  slice_index-cut_from N f u zero (c ∷ e) h = let z : f u ≡ true = rw (← add-zero u) h in rw z
  slice_index-cut_from N f u (suc v) (c ∷ e) h = slice_index-cut_from N f (suc u) v e (let z : u + suc v ≡ suc u + v = omega arith in rw z at h)

  pub slice_index-cut : (N : Notation X C) (f : ℕ → Bool) (v : ℕ) (e : List C) → f v ≡ true → get_or (cut_from N f 0 e) v N.unheld ≡ get_or e v N.unheld
  slice_index-cut N f v e h = slice_index-cut_from N f 0 v e (rw zero-add h)

  slice_index-uncut_from : (N : Notation X C) (f : ℕ → Bool) (u v : ℕ) (e : List C) → f (u + v) ≡ false → get_or (cut_from N f u e) v N.unheld ≡ N.unheld
  unfolding cut_from
  slice_index-uncut_from N f u v [] h = refl
  slice_index-uncut_from N f u zero (c ∷ e) h = let z : f u ≡ false = rw (← add-zero u) h in rw z
  slice_index-uncut_from N f u (suc v) (c ∷ e) h = slice_index-uncut_from N f (suc u) v e (let z : u + suc v ≡ suc u + v = omega arith in rw z at h)

  -- a name that is not free holds nothing
  pub slice_index-uncut : (N : Notation X C) (f : ℕ → Bool) (v : ℕ) (e : List C) → f v ≡ false → get_or (cut_from N f 0 e) v N.unheld ≡ N.unheld
  slice_index-uncut N f v e h = slice_index-uncut_from N f 0 v e (rw zero-add h)

pub length-bind : {C : Type 0} (ys : List ℕ) (cs e : List C) → length (bind ys cs e) ≡ length e
unfolding bind
length-bind [] cs e = refl
length-bind (y ∷ ys) [] e = refl
length-bind (y ∷ ys) (c ∷ cs) e = length-set (bind ys cs e) y c ∙ length-bind ys cs e
