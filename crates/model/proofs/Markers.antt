-- Marker numbers stand for different markers where no two entries are equal, and a list with one more entry keeps them.
use Prim.Native.Nat.{ℕ, zero, suc, ◌+◌, ◌≤◌, ◌<◌, zero-le, suc-le-suc}
use native.Mathlib.Nat.{not-suc-le-zero, le_of_suc-le-suc, le_trans, le_refl, eq-or-lt_of_le}
use native.Mathlib.Omega.{arith}
use mathlib.Core.Path.{◌≡◌, refl, sym, ap, ap₂, ◌∙◌}
use mathlib.Core.Logic.{◌⊎◌, inl, inr, ◌≢◌, ⊎_elim}
use mathlib.Core.Bool.{Bool, true, false, cond, ◌&&◌, false≢true, true≢false}
use mathlib.Core.List.{List, [], ◌∷◌, ◌++◌}
use lib.Dec.{eqb, ltb}
use lib.ListN.{length, get_or, length-append, get_or-append}
use lib.Seq.{get_or-append_seam}
use borrow.Author.Tests.{ltb-true, ltb-false, eqb-true, eq-eqb}
use Rattle.laws.proofs.Search.{and_split, and-join}
use Rattle.model.specs.Calculus.{Marker, empty, node, same_marker}
use Rattle.model.specs.Numbers.{Entry, no_entry, decode_to, decode, Listed, same_entry, position, extend}

-- ---- equality of markers is decided by the test

pub same-eq : (m n : Marker) → same_marker m n ≡ true → m ≡ n
unfolding same_marker
same-eq empty empty e = refl
same-eq empty (node r o m n) e = absurd (false≢true e)
same-eq (node r o m n) empty e = absurd (false≢true e)
same-eq (node r o m n) (node s p k l) e =
    let h₃ = and_split (eqb r s && eqb o p && same_marker m k) (same_marker n l) e in
    let h₂ = and_split (eqb r s && eqb o p) (same_marker m k) h₃.0 in
    let h₁ = and_split (eqb r s) (eqb o p) h₂.0 in
    cc (eqb-true r s h₁.0, eqb-true o p h₁.1, same-eq m k h₂.1, same-eq n l h₃.1)

pub same_refl : (m : Marker) → same_marker m m ≡ true
unfolding same_marker
same_refl empty = refl
same_refl (node r o m n) = and-join (and-join (and-join (eq-eqb r r refl) (eq-eqb o o refl)) (same_refl m)) (same_refl n)

-- ---- decoding

module _ (es : List Entry) (ok : Listed es) where
  depths : (d e n : ℕ) → n ≤ d → n ≤ e → n ≤ length es → decode_to d es n ≡ decode_to e es n
  unfolding decode_to
  depths zero zero n hd he h = refl
  depths zero (suc e) zero hd he h = refl
  depths zero (suc e) (suc n) hd he h = absurd (not-suc-le-zero hd)
  depths (suc d) zero zero hd he h = refl
  depths (suc d) zero (suc n) hd he h = absurd (not-suc-le-zero he)
  depths (suc d) (suc e) zero hd he h = refl
  depths (suc d) (suc e) (suc n) hd he h =
      let c = ok.ordered n h in
      let l = c.0 in let r = c.1 in
      ap₂ (Marker.node (get_or es n no_entry).resource (get_or es n no_entry).out)
      (depths d e (get_or es n no_entry).left (omega arith) (omega arith) (omega arith))
      (depths d e (get_or es n no_entry).right (omega arith) (omega arith) (omega arith))

  pub decode-suc : (k : ℕ) → k < length es
      → decode es (suc k)
      ≡ Marker.node (get_or es k no_entry).resource (get_or es k no_entry).out (decode es (get_or es k no_entry).left) (decode es (get_or es k no_entry).right)
  unfolding decode decode_to
  decode-suc k h =
      let c = ok.ordered k h in
      let l = c.0 in let r = c.1 in
      ap₂ (Marker.node (get_or es k no_entry).resource (get_or es k no_entry).out)
      (depths k (get_or es k no_entry).left (get_or es k no_entry).left l (omega arith) (omega arith))
      (depths k (get_or es k no_entry).right (get_or es k no_entry).right r (omega arith) (omega arith))

  -- two numbers that stand for one marker are equal
  inj : (d m n : ℕ) → m ≤ d → m ≤ length es → n ≤ length es → decode es m ≡ decode es n → m ≡ n
  unfolding decode decode_to
  inj zero zero zero hd hm hn e = refl
  inj zero zero (suc n) hd hm hn e = cc
  inj zero (suc m) n hd hm hn e = absurd (not-suc-le-zero hd)
  inj (suc d) zero zero hd hm hn e = refl
  inj (suc d) zero (suc n) hd hm hn e = cc
  inj (suc d) (suc m) zero hd hm hn e = cc
  inj (suc d) (suc m) (suc n) hd hm hn e =
      let f = sym (decode-suc m hm) ∙ e ∙ decode-suc n hn in
      let r : (get_or es m no_entry).resource ≡ (get_or es n no_entry).resource = cc in
      let o : (get_or es m no_entry).out ≡ (get_or es n no_entry).out = cc in
      let l : decode es (get_or es m no_entry).left ≡ decode es (get_or es n no_entry).left = cc in
      let k : decode es (get_or es m no_entry).right ≡ decode es (get_or es n no_entry).right = cc in
      let cm = ok.ordered m hm in let cn = ok.ordered n hn in
      let l₁ = cm.0 in let l₂ = cn.0 in let k₁ = cm.1 in let k₂ = cn.1 in
      let l' = inj d (get_or es m no_entry).left (get_or es n no_entry).left (omega arith) (omega arith) (omega arith) l in
      let k' = inj d (get_or es m no_entry).right (get_or es n no_entry).right (omega arith) (omega arith) (omega arith) k in
      ap suc (ok.distinct m n hm hn (λ i. record { resource = r i; out = o i; left = l' i; right = k' i }))

  pub decode-injective : (m n : ℕ) → m ≤ length es → n ≤ length es → decode es m ≡ decode es n → m ≡ n
  decode-injective m n hm hn e = inj m m n (le_refl m) hm hn e

-- ---- a longer list

module _ (es ds : List Entry) (ok : Listed es) where
  longer : (d n : ℕ) → n ≤ length es → decode_to d (es ++ ds) n ≡ decode_to d es n
  unfolding decode_to
  longer zero n h = refl
  longer (suc d) zero h = refl
  longer (suc d) (suc n) h =
      let c = ok.ordered n h in
      let l = c.0 in let r = c.1 in
      rw (get_or-append es ds no_entry n h)
      (ap₂ (Marker.node (get_or es n no_entry).resource (get_or es n no_entry).out)
      (longer d (get_or es n no_entry).left (omega arith))
      (longer d (get_or es n no_entry).right (omega arith)))

  pub decode-longer : (n : ℕ) → n ≤ length es → decode (es ++ ds) n ≡ decode es n
  unfolding decode
  decode-longer n h = longer n n h

-- ---- the place of an entry

pub entry-eq : (d e : Entry) → same_entry d e ≡ true → d ≡ e
unfolding same_entry
entry-eq d e h =
    let h₃ = and_split (eqb d.resource e.resource && eqb d.out e.out && eqb d.left e.left) (eqb d.right e.right) h in
    let h₂ = and_split (eqb d.resource e.resource && eqb d.out e.out) (eqb d.left e.left) h₃.0 in
    let h₁ = and_split (eqb d.resource e.resource) (eqb d.out e.out) h₂.0 in
    let r = eqb-true _ _ h₁.0 in let o = eqb-true _ _ h₁.1 in let l = eqb-true _ _ h₂.1 in let k = eqb-true _ _ h₃.1 in
    λ i. record { resource = r i; out = o i; left = l i; right = k i }

pub entry-same : (e : Entry) → same_entry e e ≡ true
unfolding same_entry
entry-same e = and-join (and-join (and-join (self e.resource) (self e.out)) (self e.left)) (self e.right)
  where
    self : (n : ℕ) → eqb n n ≡ true
    self n = eq-eqb n n refl

pub position-le : (e : Entry) (es : List Entry) → position e es ≤ length es
unfolding position
position-le e [] = zero-le
position-le e (d ∷ es) = go (same_entry d e) (position-le e es)
  where
    go : (b : Bool) → position e es ≤ length es → cond b 0 (suc (position e es)) ≤ suc (length es)
    go true h = zero-le
    go false h = suc-le-suc h

-- where the place is in the list, the entry stands there
pub position-found : (e : Entry) (es : List Entry) → position e es < length es → get_or es (position e es) no_entry ≡ e
unfolding position
position-found e [] h = absurd (not-suc-le-zero h)
position-found e (d ∷ es) h = go (same_entry d e) refl h (λ k. position-found e es k)
  where
    go : (b : Bool) → same_entry d e ≡ b → cond b 0 (suc (position e es)) < suc (length es) → (position e es < length es → get_or es (position e es) no_entry ≡ e)
        → get_or (d ∷ es) (cond b 0 (suc (position e es))) no_entry ≡ e
    go true q k ih = entry-eq d e q
    go false q k ih = ih (le_of_suc-le-suc k)

-- and no entry before it is equal
position_first : (e : Entry) (es : List Entry) (k : ℕ) → k < position e es → get_or es k no_entry ≢ e
unfolding position
position_first e [] k h q = not-suc-le-zero h
position_first e (d ∷ es) k h q = go (same_entry d e) refl k h (λ j l p. position_first e es j l p) q
  where
    go : (b : Bool) → same_entry d e ≡ b → (k : ℕ) → k < cond b 0 (suc (position e es)) → ((j : ℕ) → j < position e es → get_or es j no_entry ≢ e)
        → get_or (d ∷ es) k no_entry ≡ e → ⊥
    go true s k l ih p = not-suc-le-zero l
    go false s zero l ih p = true≢false (sym (entry-same e) ∙ ap (λ (x : Entry). same_entry x e) (sym p) ∙ s)
    go false s (suc k) l ih p = ih k (le_of_suc-le-suc l) p

-- ---- the list with one entry more is still well formed, keeps its markers, and has the new one at its place

module _ (es : List Entry) (ok : Listed es) (e : Entry) (hl : e.left ≤ length es) (hr : e.right ≤ length es) where
  added : length es ≤ position e es → Listed (es ++ (e ∷ []))
  added h = record { ordered = λ k b. at k b (split k b); distinct = λ k l bk bl q. apart k l (split k bk) (split l bl) q }
    where
      split : (k : ℕ) → k < length (es ++ (e ∷ [])) → (k < length es) ⊎ (k ≡ length es)
      split k b =
          let z : k < length es + 1 = rw (length-append es (e ∷ [])) at b in
          ⊎_elim (λ q. inr q) (λ q. inl q) (eq-or-lt_of_le (let y : k ≤ length es = omega arith in y))

      last : get_or (es ++ (e ∷ [])) (length es) no_entry ≡ e
      last = get_or-append_seam es e [] no_entry

      at : (k : ℕ) → k < length (es ++ (e ∷ [])) → (k < length es) ⊎ (k ≡ length es)
          → ((get_or (es ++ (e ∷ [])) k no_entry).left ≤ k) × ((get_or (es ++ (e ∷ [])) k no_entry).right ≤ k)
      at k b (inl q) = rw (get_or-append es (e ∷ []) no_entry k q) (ok.ordered k q)
      at k b (inr q) = rw (q, last) (hl, hr)

      new : (k : ℕ) → k < length es → get_or (es ++ (e ∷ [])) k no_entry ≡ e → ⊥
      new k q p = position_first e es k (le_trans q h) (sym (get_or-append es (e ∷ []) no_entry k q) ∙ p)

      apart : (k l : ℕ) → (k < length es) ⊎ (k ≡ length es) → (l < length es) ⊎ (l ≡ length es)
          → get_or (es ++ (e ∷ [])) k no_entry ≡ get_or (es ++ (e ∷ [])) l no_entry → k ≡ l
      apart k l (inl p) (inl q) f = ok.distinct k l p q (sym (get_or-append es (e ∷ []) no_entry k p) ∙ f ∙ get_or-append es (e ∷ []) no_entry l q)
      apart k l (inl p) (inr q) f = absurd (new k p (f ∙ rw q last))
      apart k l (inr p) (inl q) f = absurd (new l q (sym f ∙ rw p last))
      apart k l (inr p) (inr q) f = p ∙ sym q

  pub extend-listed : Listed (extend es e)
  unfolding extend
  extend-listed = go (ltb (position e es) (length es)) refl
    where
      go : (b : Bool) → ltb (position e es) (length es) ≡ b → Listed (cond b es (es ++ (e ∷ [])))
      go true q = ok
      go false q = added (ltb-false (position e es) (length es) q)

  pub extend-decode : (n : ℕ) → n ≤ length es → decode (extend es e) n ≡ decode es n
  unfolding extend
  extend-decode n h = go (ltb (position e es) (length es))
    where
      go : (b : Bool) → decode (cond b es (es ++ (e ∷ []))) n ≡ decode es n
      go true = refl
      go false = decode-longer es (e ∷ []) ok n h

  pub extend-place : (position e es < length (extend es e)) × (get_or (extend es e) (position e es) no_entry ≡ e)
  unfolding extend
  extend-place = go (ltb (position e es) (length es)) refl
    where
      go : (b : Bool) → ltb (position e es) (length es) ≡ b
          → (position e es < length (cond b es (es ++ (e ∷ [])))) × (get_or (cond b es (es ++ (e ∷ []))) (position e es) no_entry ≡ e)
      go true q = let h = ltb-true (position e es) (length es) q in (h, position-found e es h)
      go false q =
          let h = ltb-false (position e es) (length es) q in
          let k = position-le e es in
          let z : position e es ≡ length es = omega arith in
          rw z (rw (length-append es (e ∷ [])) (omega arith), get_or-append_seam es e [] no_entry)

  -- the new marker's number stands for the marker that the calculus makes
  pub extend-new : decode (extend es e) (suc (position e es)) ≡ Marker.node e.resource e.out (decode es e.left) (decode es e.right)
  extend-new =
      let p = extend-place in
      let f = decode-suc (extend es e) extend-listed (position e es) p.0 in
      let g = extend-decode e.left hl in
      let k = extend-decode e.right hr in
      rw (f, p.1, g, k)
