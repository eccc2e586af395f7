-- Where balances stand: one after another, before the claims; that the claims of a table that fits its file lie in it; that a claim that is
-- written is read back, and that equal claims have equal bytes.
use Prim.Native.Nat.{ℕ, zero, suc, ◌+◌, ◌*◌, ◌≤◌, ◌<◌}
use native.Mathlib.Nat.{add-zero, add_assoc, mul-le-mul, mul-le-mul_right, suc-mul}
use native.Mathlib.Numerals.{add-one}
use native.Mathlib.Omega.{arith}
use mathlib.Core.Path.{◌≡◌, sym, ap, ◌∙◌}
use mathlib.Core.List.{List, ◌++◌}
use lib.ListN.{length, get_or}
use Rattle.laws.specs.Lists.{put}
use Rattle.laws.proofs.Put.{slice_index-written}
use Rattle.wire.specs.Numbers.{u16_at, le16}
use Rattle.wire.proofs.Written.{two_bytes, two-same}
use Rattle.model.specs.declared.Claim.{Claim}
use Rattle.records.specs.declared.Trailer.{Trailer}
use Rattle.layout.specs.declared.Sizes.{Sizes}
use Rattle.layout.specs.Table.{balance_size, balance_at, claim_at, claim_of, Laid, ClaimsLie}

-- balance k ends before the claims start
pub balance-fits : (z : Sizes) (k : ℕ) → k < z.balances → balance_at z k + balance_size z ≤ claim_at z 0
balance-fits z k h =
    let e : (k + 1) * balance_size z ≡ k * balance_size z + balance_size z = ap (λ (n : ℕ). n * balance_size z) (add-one k) ∙ suc-mul k (balance_size z) in
    let l : (k + 1) * balance_size z ≤ z.balances * balance_size z = mul-le-mul_right (balance_size z) (omega arith) in
    omega arith

-- k balances together take at most so many bytes
pub balances-small : (z : Sizes) (k : ℕ) → z.nodes ≤ 1024 → k ≤ 24 → k * balance_size z ≤ 24 * 2052
balances-small z k m l = mul-le-mul {n₁ = k} {m₁ = balance_size z} {n₂ = 24} {m₂ = 2052} l (omega arith)

-- where the parts fit the array and the file, the claims lie in it
pub claims-lie : (t : Trailer) (s : List ℕ) (z : Sizes) → t.nodes ≤ 1024 → t.names ≤ 256 → Laid t s z → ClaimsLie s z
claims-lie t s z m n l = record {
  nodes = omega (arith, l.nodes, m);
  names = omega (arith, l.names, n);
  balances = l.few_balances;
  few = l.few_claims;
  inside = omega (arith, l.fills);
}

-- a claim's four numbers, written one after another, are read back
pub claim-back : (s : List ℕ) (at : ℕ) (x : Claim) → at + 8 ≤ length s → x.agent < 65536 → x.most < 65536 → x.balance < 65536 → x.set < 65536
    → claim_of (put at (le16 x.agent ++ (le16 x.most ++ (le16 x.balance ++ le16 x.set))) s) at ≡ x
claim-back s at x h agent most balance set =
    let xs = le16 x.agent ++ (le16 x.most ++ (le16 x.balance ++ le16 x.set)) in
    let s' = put at xs s in
    let byte : (k : ℕ) → k < 8 → get_or s' (at + k) 0 ≡ get_or xs k 0 = λ k l. slice_index-written at xs s k 0 (omega (arith, h)) l in
    let next : (k : ℕ) → k < 7 → get_or s' (at + k + 1) 0 ≡ get_or xs (k + 1) 0 =
    λ k l. ap (λ (j : ℕ). get_or s' j 0) (add_assoc at k 1) ∙ byte (k + 1) (omega (arith, l)) in
    let a = two_bytes s' (at + 0) x.agent agent (byte 0 (omega arith)) (next 0 (omega arith)) in
    let m = two_bytes s' (at + 2) x.most most (byte 2 (omega arith)) (next 2 (omega arith)) in
    let b = two_bytes s' (at + 4) x.balance balance (byte 4 (omega arith)) (next 4 (omega arith)) in
    let n = two_bytes s' (at + 6) x.set set (byte 6 (omega arith)) (next 6 (omega arith)) in
    λ i. record { agent = (ap (u16_at s') (sym (add-zero at)) ∙ a) i; most = m i; balance = b i; set = n i }

-- the bytes of two claims that are equal
module _ (s u : List ℕ) (p q : ℕ) (bs : (i : ℕ) → get_or s i 0 < 256) (bu : (i : ℕ) → get_or u i 0 < 256) where
  -- those of one of its numbers, k bytes on
  pair : (k : ℕ) → u16_at s (p + k) ≡ u16_at u (q + k)
      → (get_or s (p + k) 0 ≡ get_or u (q + k) 0) × (get_or s (p + (k + 1)) 0 ≡ get_or u (q + (k + 1)) 0)
  pair k e =
      let b = two-same s u (p + k) (q + k) (bs (p + k)) (bu (q + k)) e in
      (b.0, ap (λ (j : ℕ). get_or s j 0) (sym (add_assoc p k 1)) ∙ b.1 ∙ ap (λ (j : ℕ). get_or u j 0) (add_assoc q k 1))

  pub claim-bytes : claim_of s p ≡ claim_of u q → (i : ℕ) → i < 8 → get_or s (p + i) 0 ≡ get_or u (q + i) 0
  claim-bytes e i h = at i h
    where
      agent : (get_or s (p + 0) 0 ≡ get_or u (q + 0) 0) × (get_or s (p + 1) 0 ≡ get_or u (q + 1) 0)
      agent = pair 0 (ap (u16_at s) (add-zero p) ∙ ap (λ (x : Claim). x.agent) e ∙ ap (u16_at u) (sym (add-zero q)))

      most : (get_or s (p + 2) 0 ≡ get_or u (q + 2) 0) × (get_or s (p + 3) 0 ≡ get_or u (q + 3) 0)
      most = pair 2 (ap (λ (x : Claim). x.most) e)

      balance : (get_or s (p + 4) 0 ≡ get_or u (q + 4) 0) × (get_or s (p + 5) 0 ≡ get_or u (q + 5) 0)
      balance = pair 4 (ap (λ (x : Claim). x.balance) e)

      set : (get_or s (p + 6) 0 ≡ get_or u (q + 6) 0) × (get_or s (p + 7) 0 ≡ get_or u (q + 7) 0)
      set = pair 6 (ap (λ (x : Claim). x.set) e)

      at : (i : ℕ) → i < 8 → get_or s (p + i) 0 ≡ get_or u (q + i) 0
      at zero h = agent.0
      at (suc zero) h = agent.1
      at (suc (suc zero)) h = most.0
      at (suc (suc (suc zero))) h = most.1
      at (suc (suc (suc (suc zero)))) h = balance.0
      at (suc (suc (suc (suc (suc zero))))) h = balance.1
      at (suc (suc (suc (suc (suc (suc zero)))))) h = set.0
      at (suc (suc (suc (suc (suc (suc (suc zero))))))) h = set.1
      at (suc (suc (suc (suc (suc (suc (suc (suc i)))))))) h = absurd (omega (arith, h))
