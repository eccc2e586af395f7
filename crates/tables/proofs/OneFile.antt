-- Two tables that are read beside the same array, with the same rows and balances and the same claims as a set, are one file, byte by byte: what no
-- agent weighs, and the padding, is 0 (20), the claims are in their order (31), and the trailer is laid down by 14 and 16 to 18.
use Prim.Native.Nat.{ℕ, zero, suc, ◌+◌, ◌-◌, ◌*◌, ◌/◌, ◌%◌, ◌≤◌, ◌<◌}
use native.Mathlib.Nat.{add-zero, add_assoc, zero-mul, suc-mul, le_refl}
use native.Mathlib.Omega.{arith}
use mathlib.Core.Path.{◌≡◌, sym, ap, ap₂, ◌∙◌, subst}
use mathlib.Core.Logic.{◌⊎◌, inl, inr, ⊎_elim}
use mathlib.Core.Bool.{true, false, false≢true}
use mathlib.Core.List.{List}
use lib.Dec.{eqb, ltb}
use lib.ListN.{length, get_or}
use lib.Seq.{ext_get_or}
use borrow.Author.Tests.{eqb-true, ltb-true, ltb-false}
use Rattle.laws.specs.Search.{clear}
use Rattle.laws.specs.Bits.{bit}
use Rattle.laws.proofs.Search.{decided, and_split, or_split, test-clear, first-clear, every_true}
use Rattle.laws.proofs.Bits.{bit-ext}
use Rattle.wire.specs.Numbers.{u16_at, u32_at, word_sum}
use Rattle.wire.proofs.Written.{two-same, four_same, sum-bytes}
use Rattle.model.specs.Tree.{node_at, is_agent}
use Rattle.model.specs.Same.{Alike, SameClaims}
use Rattle.model.proofs.Order.{one-order}
use Rattle.records.specs.declared.Trailer.{Trailer}
use Rattle.records.specs.Record.{array_of}
use Rattle.layout.specs.declared.Sizes.{Sizes}
use Rattle.layout.specs.Table.{pic1, balance_size, balance_at, claim_at, sizes_of, weight_at, table_of, starts_fit, parts_fit, weights_fit, padding_fits}
use Rattle.layout.specs.Table.{refusal14, refusal20}
use Rattle.layout.proofs.Laws.{claim-bytes}
use Rattle.claims.proofs.Laws.{claims-rise}
use Rattle.tables.proofs.Laws.{Passed, parts-fill}

-- ---- what one table that is read has to be

module _ (f : List ℕ) (t : Trailer) (s : List ℕ) (p : Passed f t s) where
  abbrev z : Sizes
  z = sizes_of t s

  fills : claim_at z z.claims + 28 ≡ length s
  fills = parts-fill s z p.parts

  lettered : u32_at s (length s - 4) ≡ pic1
  lettered = go (decided (eqb (u32_at s (length s - 4)) pic1)) p.letters
    where
      go : (eqb (u32_at s (length s - 4)) pic1 ≡ true) ⊎ (eqb (u32_at s (length s - 4)) pic1 ≡ false) → refusal14 z ≡ clear → u32_at s (length s - 4) ≡ pic1
      go (inl q) h = eqb-true _ pic1 q
      go (inr q) h = absurd (false≢true (test-clear _ _ (rw q at h)))

  starts : (u32_at s (length s - 28) ≡ 0) × (u32_at s (length s - 24) ≡ balance_at z 0) × (u32_at s (length s - 20) ≡ claim_at z 0)
  unfolding parts_fit
  starts =
      let a = (and_split (starts_fit s z) (eqb (claim_at z z.claims + 28) (length s)) p.parts).0 in
      let b = and_split _ (eqb (u32_at s (length s - 20)) (claim_at z 0)) a in
      let c = and_split (eqb (u32_at s (length s - 28)) 0) (eqb (u32_at s (length s - 24)) (balance_at z 0)) b.0 in
      (eqb-true _ _ c.0, eqb-true _ _ c.1, eqb-true _ _ b.1)

  -- a place of a balance that is no agent's has no weight (20)
  idle : (k j : ℕ) → k < z.balances → j < t.nodes + t.nodes % 2 → is_agent (node_at (array_of f t) j) ≡ false → weight_at s (balance_at z k) j ≡ 0
  unfolding refusal20
  idle k j h l e = go (decided (ltb j t.nodes))
    where
      fit : (weights_fit (array_of f t) s (balance_at z k) ≡ true) × (padding_fits (array_of f t) s (balance_at z k) ≡ true)
      fit = and_split _ _ (test-clear _ _ (first-clear z.balances _ p.weights k h))

      go : (ltb j t.nodes ≡ true) ⊎ (ltb j t.nodes ≡ false) → weight_at s (balance_at z k) j ≡ 0
      go (inl q) =
          ⊎_elim (λ a. absurd (false≢true (sym e ∙ a))) (λ w. eqb-true _ 0 w)
          (or_split (is_agent (node_at (array_of f t) j)) _ (every_true t.nodes _ fit.0 j (ltb-true j t.nodes q)))
      go (inr q) =
          let g = ltb-false j t.nodes q in
          let last : j ≡ t.nodes = omega arith in
          ⊎_elim (λ even. absurd (omega (arith, eqb-true (t.nodes % 2) 0 even, g, l)))
          (λ w. subst (λ i. weight_at s (balance_at z k) i ≡ 0) (sym last) (eqb-true _ 0 w))
          (or_split (eqb (t.nodes % 2) 0) _ fit.1)

-- ---- two tables

module _ (f : List ℕ) (t : Trailer) (s u : List ℕ) (bs : (i : ℕ) → get_or s i 0 < 256) (bu : (i : ℕ) → get_or u i 0 < 256) (ps : Passed f t s)
    (pu : Passed f t u) (e : Alike (array_of f t) (table_of s (sizes_of t s)) (table_of u (sizes_of t u)))
    (same : SameClaims (table_of s (sizes_of t s)) (table_of u (sizes_of t u))) where
  abbrev x : Sizes
  x = sizes_of t s

  abbrev y : Sizes
  y = sizes_of t u

  -- the first n bytes are the same
  abbrev Front : ℕ → Type 0
  Front n = (i : ℕ) → i < n → get_or s i 0 ≡ get_or u i 0

  grow : (n m : ℕ) → Front n → ((r : ℕ) → r < m → get_or s (n + r) 0 ≡ get_or u (n + r) 0) → Front (n + m)
  grow n m front more i h = go (decided (ltb i n))
    where
      go : (ltb i n ≡ true) ⊎ (ltb i n ≡ false) → get_or s i 0 ≡ get_or u i 0
      go (inl q) = front i (ltb-true i n q)
      go (inr q) =
          let l = ltb-false i n q in
          let on : n + (i - n) ≡ i = omega arith in
          subst (λ j. get_or s j 0 ≡ get_or u j 0) on (more (i - n) (omega arith))

  -- ---- rows

  rows_same : Front (32 * t.names)
  rows_same i h =
      bit-ext 8 (get_or s i 0) (get_or u i 0) (bs i) (bu i) (λ k l.
      let place : 32 * (i / 32) + (8 * (i % 32) + k) / 8 ≡ i = omega arith in
      let off : (8 * (i % 32) + k) % 8 ≡ k = omega arith in
      let row = e.rows (i / 32) (8 * (i % 32) + k) (omega arith) (omega arith) in
      sym (ap₂ (λ (j m : ℕ). bit (get_or s j 0) m) place off) ∙ row ∙ ap₂ (λ (j m : ℕ). bit (get_or u j 0) m) place off)

  -- ---- the bytes of a number

  two : (p : ℕ) → u16_at s p ≡ u16_at u p → (r : ℕ) → r < 2 → get_or s (p + r) 0 ≡ get_or u (p + r) 0
  two p q zero h = rw add-zero (two-same s u p p (bs p) (bu p) q).0
  two p q (suc zero) h = (two-same s u p p (bs p) (bu p) q).1
  two p q (suc (suc r)) h = absurd (omega (arith, h))

  four : (p : ℕ) → u32_at s p ≡ u32_at u p → (r : ℕ) → r < 4 → get_or s (p + r) 0 ≡ get_or u (p + r) 0
  four p q zero h = rw add-zero (four_same s u p p bs bu q).0
  four p q (suc zero) h = (four_same s u p p bs bu q).1
  four p q (suc (suc zero)) h = (four_same s u p p bs bu q).2
  four p q (suc (suc (suc zero))) h = (four_same s u p p bs bu q).3
  four p q (suc (suc (suc (suc r)))) h = absurd (omega (arith, h))

  -- ---- balances

  weight-same : (k j : ℕ) → k < x.balances → j < t.nodes + t.nodes % 2 → weight_at s (balance_at x k) j ≡ weight_at u (balance_at x k) j
  weight-same k j h l =
      ⊎_elim (λ a. e.weights k j h a) (λ a. idle f t s ps k j h l a ∙ sym (idle f t u pu k j (rw (← e.many) h) l a))
      (decided (is_agent (node_at (array_of f t) j)))

  balance-same : (k : ℕ) → k < x.balances → (r : ℕ) → r < balance_size x → get_or s (balance_at x k + r) 0 ≡ get_or u (balance_at x k + r) 0
  balance-same k h r l = go (decided (ltb r 4))
    where
      go : (ltb r 4 ≡ true) ⊎ (ltb r 4 ≡ false) → get_or s (balance_at x k + r) 0 ≡ get_or u (balance_at x k + r) 0
      go (inl q) = four (balance_at x k) (e.bounds k h) r (ltb-true r 4 q)
      go (inr q) =
          let m = ltb-false r 4 q in
          let j = (r - 4) / 2 in
          let on : balance_at x k + 4 + 2 * ((r - 4) / 2) + (r - 4) % 2 ≡ balance_at x k + r = omega arith in
          subst (λ i. get_or s i 0 ≡ get_or u i 0) on
          (two (balance_at x k + 4 + 2 * j) (weight-same k j h (omega arith)) ((r - 4) % 2) (omega arith))

  balances-same : (n : ℕ) → n ≤ x.balances → Front (balance_at x n)
  balances-same zero h = subst Front (sym (ap (λ (m : ℕ). 32 * t.names + m) (zero-mul (balance_size x)) ∙ add-zero _)) rows_same
  balances-same (suc n) h =
      let on : balance_at x n + balance_size x ≡ balance_at x (suc n) =
      add_assoc (32 * t.names) (n * balance_size x) (balance_size x) ∙ ap (λ (m : ℕ). 32 * t.names + m) (sym (suc-mul n (balance_size x))) in
      subst Front on (grow (balance_at x n) (balance_size x) (balances-same n (omega arith)) (balance-same n h))

  -- ---- claims

  ordered : (x.claims ≡ y.claims) × ((c : ℕ) → c < x.claims → (table_of s x).claim c ≡ (table_of u y).claim c)
  ordered = one-order (table_of s x) (table_of u y) (claims-rise (table_of s x) ps.order) (claims-rise (table_of u y) pu.order) same

  claims-at : (c : ℕ) → claim_at y c ≡ claim_at x c
  claims-at c = ap (λ (k : ℕ). balance_at x k + 8 * c) (sym e.many)

  claims-same : (c : ℕ) → c ≤ x.claims → Front (claim_at x c)
  claims-same zero h = subst Front (sym (add-zero _)) (balances-same x.balances (le_refl _))
  claims-same (suc c) h =
      let on : claim_at x c + 8 ≡ claim_at x (suc c) = omega arith in
      subst Front on (grow (claim_at x c) 8 (claims-same c (omega arith)) (λ r l.
      claim-bytes s u (claim_at x c) (claim_at y c) bs bu (ordered.1 c h) r l ∙ ap (λ (j : ℕ). get_or u (j + r) 0) (claims-at c)))

  -- ---- the trailer

  long : length u ≡ length s
  long =
      sym (fills f t u pu)
      ∙ ap₂ (λ (c k : ℕ). balance_at x k + 8 * c + 28) (sym ordered.0) (sym e.many)
      ∙ fills f t s ps

  -- a number k bytes before the end
  word : (n k : ℕ) → n + k ≡ length s → Front n → u32_at s (length s - k) ≡ u32_at u (length u - k) → Front (n + 4)
  word n k h front q =
      let here : length s - k ≡ n = omega arith in
      let there : length u - k ≡ n = omega (arith, h, long) in
      grow n 4 front (four n (ap (u32_at s) (sym here) ∙ q ∙ ap (u32_at u) there))

  half : (n k : ℕ) → n + k ≡ length s → Front n → u16_at s (length s - k) ≡ u16_at u (length u - k) → Front (n + 2)
  half n k h front q =
      let here : length s - k ≡ n = omega arith in
      let there : length u - k ≡ n = omega (arith, h, long) in
      grow n 2 front (two n (ap (u16_at s) (sym here) ∙ q ∙ ap (u16_at u) there))

  pub one-file : s ≡ u
  one-file =
      let n = claim_at x x.claims in
      let end : n + 28 ≡ length s = fills f t s ps in
      let a = starts f t s ps in
      let b = starts f t u pu in
      let w₀ = claims-same x.claims (le_refl _) in
      let w₁ = word n 28 end w₀ (a.0 ∙ sym b.0) in
      let w₂ = word (n + 4) 24 (omega (arith, end)) w₁ (a.1 ∙ sym b.1) in
      let w₃ = word (n + 4 + 4) 20 (omega (arith, end)) w₂ (a.2 ∙ sym (claims-at 0) ∙ sym b.2) in
      let w₄ = half (n + 4 + 4 + 4) 16 (omega (arith, end)) w₃ e.many in
      let w₅ = half (n + 4 + 4 + 4 + 2) 14 (omega (arith, end)) w₄ ordered.0 in
      let w₆ = word (n + 4 + 4 + 4 + 2 + 2) 12 (omega (arith, end)) w₅ (ps.named ∙ sym pu.named) in
      let sums : word_sum s ((length s - 8) / 4) ≡ word_sum u ((length u - 8) / 4) =
      sum-bytes s u ((length s - 8) / 4) (λ i h. w₆ i (omega (arith, end, h))) ∙ ap (λ (m : ℕ). word_sum u ((m - 8) / 4)) (sym long) in
      let w₇ = word (n + 4 + 4 + 4 + 2 + 2 + 4) 8 (omega (arith, end)) w₆ (ps.sum ∙ sums ∙ sym pu.sum) in
      let w₈ = word (n + 4 + 4 + 4 + 2 + 2 + 4 + 4) 4 (omega (arith, end)) w₇ (lettered f t s ps ∙ sym (lettered f t u pu)) in
      ext_get_or 0 s u (sym long) (λ i h. w₈ i (omega (arith, end, h)))
