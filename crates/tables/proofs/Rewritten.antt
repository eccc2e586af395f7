-- A table that was read, written out again with other rows (02, request iv): it has these rows, the same balances and claims, and is read too. With
-- the rows that it had it is the same file.
use Prim.Native.Nat.{ℕ, zero, suc, ◌+◌, ◌*◌, ◌-◌, ◌%◌, ◌≤◌, ◌<◌}
use native.Mathlib.Omega.{arith}
use mathlib.Core.Path.{◌≡◌, refl, sym, ap, ap₂, ◌∙◌, subst}
use mathlib.Core.Logic.{◌⊎◌, inl, inr}
use mathlib.Core.Bool.{true, false, not, ◌&&◌, ◌||◌}
use mathlib.Core.List.{List}
use lib.Dec.{eqb, leb}
use lib.ListN.{length, get_or}
use borrow.Author.Tests.{eqb-false, eq-eqb}
use Rattle.laws.specs.Search.{clear, and_then}
use Rattle.laws.proofs.Search.{decided, implies, implied, test-clear, clear-test, and_then-split, and_then-join, first-clear, clear_first, first-same}
use Rattle.laws.proofs.Search.{every_true, true-every, every-same}
use Rattle.wire.specs.Numbers.{u16_at, u32_at}
use Rattle.wire.proofs.Written.{sealed-sum}
use Rattle.model.specs.Tree.{Array, node_at, is_agent, is_new}
use Rattle.model.specs.Formed.{refuse}
use Rattle.model.specs.declared.Claim.{Claim}
use Rattle.model.specs.Rules.{together, comes_after}
use Rattle.model.specs.Mend.{Rows, with_rows}
use Rattle.model.specs.Same.{Alike, SameClaims}
use Rattle.model.proofs.Tree.{agent-inside}
use Rattle.records.specs.declared.Trailer.{Trailer}
use Rattle.records.specs.Record.{array_of}
use Rattle.layout.specs.declared.Sizes.{Sizes}
use Rattle.layout.specs.Table.{table_form, balance_at, claim_at, sizes_of, row_bit, weight_at, claim_of, table_of}
use Rattle.layout.specs.Table.{parts_fit, row_fits, padding_fits, claim_fits, agrees, set_fits, in_order}
use Rattle.layout.specs.Table.{refusal13, refusal19, refusal20, refusal21, refusal30, refusal31}
use Rattle.layout.proofs.Laws.{balance-fits}
use Rattle.flows.specs.Written.{rewritten}
use Rattle.flows.proofs.RowBytes.{length-rewritten, number-kept, word_kept, bit-written, bytes-written, letters-kept, front}
use Rattle.tables.specs.Read.{table_refusal, from14}
use Rattle.tables.proofs.Laws.{passed, parts-fill}
use Rattle.tables.proofs.OneFile.{one-file}

-- ---- what is refused of two files with the same numbers

module _ (a : Array) (s u : List ℕ) (z : Sizes) where
  parts_same : length u ≡ length s → ((k : ℕ) → 12 ≤ k → k ≤ 28 → u32_at u (length u - k) ≡ u32_at s (length s - k)) → parts_fit u z ≡ parts_fit s z
  unfolding parts_fit
  parts_same long word =
      rw (word 28 (omega arith) (omega arith), word 24 (omega arith) (omega arith), word 20 (omega arith) (omega arith), long)

  weights-same : a.size ≡ z.nodes
      → ((k i : ℕ) → k < z.balances → i < z.nodes + z.nodes % 2 → weight_at u (balance_at z k) i ≡ weight_at s (balance_at z k) i)
      → refusal20 a u z ≡ refusal20 a s z
  unfolding refusal20
  weights-same e weight =
      first-same z.balances _ _ (λ k h.
      ap (refuse 20 k)
      (ap₂ ◌&&◌
      (every-same a.size _ _ (λ i l. ap (λ (w : ℕ). is_agent (node_at a i) || eqb w 0) (weight k i h (omega (arith, e, l)))))
      (padding k h (decided (eqb (a.size % 2) 0)))))
    where
      padding : (k : ℕ) → k < z.balances → (eqb (a.size % 2) 0 ≡ true) ⊎ (eqb (a.size % 2) 0 ≡ false)
          → padding_fits a u (balance_at z k) ≡ padding_fits a s (balance_at z k)
      padding k h (inl q) = rw q
      padding k h (inr q) =
          let odd = eqb-false (a.size % 2) 0 q in
          ap (λ (w : ℕ). eqb (a.size % 2) 0 || eqb w 0) (weight k a.size h (omega (arith, e, odd)))

  module _ (same : (c : ℕ) → c < z.claims → claim_of u (claim_at z c) ≡ claim_of s (claim_at z c)) where
    claims-same : refusal21 a (table_of u z) ≡ refusal21 a (table_of s z)
    unfolding refusal21
    claims-same = first-same z.claims _ _ (λ c h. ap (λ (x : Claim). refuse 21 c (claim_fits a z.balances x)) (same c h))

    sets_same : refusal30 (table_of u z) ≡ refusal30 (table_of s z)
    unfolding refusal30 set_fits together
    sets_same =
        first-same z.claims _ _ (λ c h.
        ap (refuse 30 c)
        (every-same c _ _ (λ d l.
        ap₂ (λ (x y : Claim). not (eqb c d || (not (eqb x.set 0) && eqb y.set x.set)) || agrees x y) (same c h) (same d (omega arith)))))

    order_same : refusal31 (table_of u z) ≡ refusal31 (table_of s z)
    unfolding refusal31 in_order
    order_same = first-same z.claims _ _ (λ c h. ap (refuse 31 c) (at c h))
      where
        at : (c : ℕ) → c < z.claims → in_order (table_of u z) c ≡ in_order (table_of s z) c
        at zero h = refl
        at (suc c) h = ap₂ comes_after (same (suc c) h) (same c (omega arith))

-- ---- a table that was read, with other rows

module _ (f : List ℕ) (t : Trailer) (s : List ℕ) (read : table_refusal f t s ≡ clear) (bytes : (i : ℕ) → get_or s i 0 < 256) (r : Rows) where
  abbrev z : Sizes
  z = sizes_of t s

  abbrev u : List ℕ
  u = rewritten z r s

  fills : claim_at z z.claims + 28 ≡ length s
  fills = parts-fill s z (passed f t s read).parts

  room : balance_at z 0 + 28 ≤ length s
  room = let e = fills in omega arith

  pub same_length : length u ≡ length s
  same_length = length-rewritten z r s room

  pub still-bytes : (i : ℕ) → get_or u i 0 < 256
  still-bytes = bytes-written z r s room bytes

  -- ---- what stays

  -- a word and a number of the trailer, k bytes before the end
  word-stays : (k : ℕ) → 12 ≤ k → k ≤ 28 → u32_at u (length u - k) ≡ u32_at s (length s - k)
  word-stays k l h =
      let e = room in
      ap (λ (n : ℕ). u32_at u (n - k)) same_length ∙ word_kept z r s room (length s - k) (omega arith) (omega arith)

  number-stays : (k : ℕ) → 10 ≤ k → k ≤ 28 → u16_at u (length u - k) ≡ u16_at s (length s - k)
  number-stays k l h =
      let e = room in
      ap (λ (n : ℕ). u16_at u (n - k)) same_length ∙ number-kept z r s room (length s - k) (omega arith) (omega arith)

  pub same-sizes : sizes_of t u ≡ z
  same-sizes = λ i. record {
    nodes = t.nodes;
    names = t.names;
    balances = number-stays 16 (omega arith) (omega arith) i;
    claims = number-stays 14 (omega arith) (omega arith) i;
    form = table_form ((ap (λ (n : ℕ). u32_at u (n - 4)) same_length ∙ letters-kept z r s room bytes) i);
  }

  pub same-bound : (k : ℕ) → k < z.balances → u32_at u (balance_at z k) ≡ u32_at s (balance_at z k)
  same-bound k h =
      let l = balance-fits z k h in
      let e = fills in
      word_kept z r s room (balance_at z k) (omega arith) (omega arith)

  pub same-weight : (k i : ℕ) → k < z.balances → i < z.nodes + z.nodes % 2 → weight_at u (balance_at z k) i ≡ weight_at s (balance_at z k) i
  same-weight k i h w =
      let l = balance-fits z k h in
      let e = fills in
      number-kept z r s room (balance_at z k + 4 + 2 * i) (omega arith) (omega arith)

  pub same-claim : (c : ℕ) → c < z.claims → claim_of u (claim_at z c) ≡ claim_of s (claim_at z c)
  same-claim c h = λ i. record {
    agent = number (claim_at z c) (omega arith) (omega arith) i;
    most = number (claim_at z c + 2) (omega arith) (omega arith) i;
    balance = number (claim_at z c + 4) (omega arith) (omega arith) i;
    set = number (claim_at z c + 6) (omega arith) (omega arith) i;
  }
    where
      number : (p : ℕ) → claim_at z c ≤ p → p + 2 ≤ claim_at z c + 8 → u16_at u p ≡ u16_at s p
      number p l m = let e = fills in number-kept z r s room p (omega arith) (omega arith)

  -- ---- its rows

  pub new-rows : (v o : ℕ) → v < z.names → o < 256 → row_bit u z v o ≡ r v o
  new-rows = bit-written z r s room

  -- ---- it is the table with these rows

  pub as-mended : Alike (array_of f t) (with_rows (table_of s z) r) (table_of u (sizes_of t u))
  as-mended = subst (λ (y : Sizes). Alike (array_of f t) (with_rows (table_of s z) r) (table_of u y)) (sym same-sizes) record {
    rows = λ v o h l. sym (new-rows v o h l);
    many = refl;
    bounds = λ k h. sym (same-bound k h);
    weights = λ k i h a. let l = agent-inside (array_of f t) i a in sym (same-weight k i h (omega (arith, l)));
  }

  pub same-claims : SameClaims (with_rows (table_of s z) r) (table_of u (sizes_of t u))
  same-claims = subst (λ (y : Sizes). SameClaims (with_rows (table_of s z) r) (table_of u y)) (sym same-sizes) record {
    there = λ c h. (c, h, same-claim c h);
    back = λ c h. (c, h, sym (same-claim c h));
  }

  -- ---- it is read
  pub read_again : ((v o : ℕ) → v < z.names → o < 256 → r v o ≡ true → is_new (array_of f t) o ≡ true) → table_refusal f t u ≡ clear
  unfolding refusal19
  read_again new =
      let p = passed f t s read in
      let a = array_of f t in
      let row : (v : ℕ) → v < z.names → row_fits a u z v ≡ true =
      λ v h. true-every 256 _ (λ o l. implied (row_bit u z v o) (is_new a o) (λ b. new v o h l (sym (new-rows v o h l) ∙ b))) in
      subst (λ (y : Sizes). and_then (refusal13 u) (from14 f t u y) ≡ clear) (sym same-sizes)
      (and_then-join _ _ (ap (λ (n : ℕ). refuse 13 0 (leb 28 n && leb n 59516 && eqb (n % 4) 0)) same_length ∙ (and_then-split _ _ read).0)
      (and_then-join _ _ p.letters
      (and_then-join _ _ (clear-test _ _ p.counts)
      (and_then-join _ _ (clear-test _ _ (parts_same a s u z same_length word-stays ∙ p.parts))
      (and_then-join _ _ (clear-test _ _ (eq-eqb _ _ (sealed-sum (front z r s room) (u32_at s (length s - 4)))))
      (and_then-join _ _ (clear-test _ _ (eq-eqb _ _ (word-stays 12 (omega arith) (omega arith) ∙ p.named)))
      (and_then-join _ _ (clear_first z.names _ (λ v h. clear-test _ _ (row v h)))
      (and_then-join _ _ (weights-same a s u z refl same-weight ∙ p.weights)
      (and_then-join _ _ (claims-same a s u z same-claim ∙ p.claims)
      (and_then-join _ _ (sets_same a s u z same-claim ∙ p.sets) (order_same a s u z same-claim ∙ p.order)))))))))))

  -- ---- with the rows that it had it is the same file
  pub same-file : ((v o : ℕ) → v < z.names → o < 256 → r v o ≡ row_bit s z v o) → u ≡ s
  unfolding refusal19
  same-file e =
      let a = array_of f t in
      let alike : Alike a (table_of s z) (table_of u (sizes_of t u)) = record {
        rows = λ v o h l. sym (e v o h l) ∙ as-mended.rows v o h l;
        many = as-mended.many;
        bounds = as-mended.bounds;
        weights = as-mended.weights;
      } in
      let claims : SameClaims (table_of s z) (table_of u (sizes_of t u)) = record { there = same-claims.there; back = same-claims.back } in
      sym (one-file f t s u bytes still-bytes (passed f t s read) (passed f t u (read_again old)) alike claims)
    where
      old : (v o : ℕ) → v < z.names → o < 256 → r v o ≡ true → is_new (array_of f t) o ≡ true
      old v o h l b = implies _ _ (every_true 256 _ (test-clear _ _ (first-clear z.names _ (passed f t s read).rows v h)) o l) (sym (e v o h l) ∙ b)
