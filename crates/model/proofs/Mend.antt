-- Mending (02, request iv): the rounds end in the smallest rows that contain the given ones and meet rules 1 and 3 (mended-smallest), and there is only
-- one such choice (smallest-same). What carries it: rows that meet both rules and contain r contain what a round sets in r (round-least), and a round that
-- sets nothing leaves rows that meet both (settled).
use Prim.Native.Nat.{ℕ, zero, suc, ◌+◌, ◌*◌, ◌≤◌, ◌<◌, zero-le}
use native.Mathlib.Nat.{eq-or-lt_of_le, not-suc-le-zero, le_of_suc-le-suc, le_refl, mul_comm}
use native.Mathlib.Omega.{arith}
use mathlib.Core.Path.{◌≡◌, refl, sym, ap₂, ◌∙◌, subst}
use mathlib.Core.Logic.{◌↔◌, ◌⊎◌, inl, inr, ⊎_elim}
use mathlib.Core.Bool.{Bool, true, false, not, ◌&&◌, false≢true}
use mathlib.Core.Option.{Option, none, some}
use lib.Dec.{eqb}
use lib.ListN.{get_or}
use borrow.Author.Tests.{eqb-true, eqb-false, eq-eqb, not-true}
use Rattle.laws.specs.Search.{any, sum}
use Rattle.laws.specs.Lists.{one}
use Rattle.laws.proofs.Search.{decided, and_split, and-join, or_split, or_left, or_right, same_test, any-true, true-any}
use Rattle.laws.proofs.Search.{sum_same, sum_one, sum-some, sum_mono, sum_bound, sum_zeros}
use Rattle.laws.proofs.Lists.{one-true, one-le}
use Rattle.model.specs.Tree.{Array, Agent, agent_at, is_new}
use Rattle.model.specs.Formed.{WellFormed}
use Rattle.model.specs.Rules.{Table, row_bits, Live, live, arity, Each, Rule1, Rule2, Rule3, Rule4, Rule5, Rules}
use Rattle.model.specs.Same.{Alike}
use Rattle.model.specs.Mend.{Rows, with_rows, Contained, Mends, Smallest, pair_asks, asked, round, rounds, mended, bits_set}
use Rattle.model.proofs.Tree.{agent-below}
use Rattle.model.proofs.Verdict.{live-Live, Live-live, live_more}
use Rattle.model.proofs.Alike.{Known, known, alike-back}

-- rows that say the same at every name of the array
abbrev pub SameRows : Array → Rows → Rows → Type 0
SameRows a r s = Each a.names λ v. Each row_bits λ o. r v o ≡ s v o

pub contained-both : (a : Array) (r s : Rows) → Contained a r s → Contained a s r → SameRows a r s
contained-both a r s c d v h o l = same_test (r v o) (s v o) (c v h o l) (d v h o l)

-- ---- bits set, and bits that are not

-- a sum of terms that are no larger, one of them smaller
sum_less : (n : ℕ) (f g : ℕ → ℕ) → ((j : ℕ) → j < n → f j ≤ g j) → (i : ℕ) → i < n → f i < g i → sum n f < sum n g
unfolding sum
sum_less zero f g h i k l = absurd (not-suc-le-zero k)
sum_less (suc n) f g h i k l = go (λ m. sum_less n f g (λ j b. h j (omega arith)) i m l) (eq-or-lt_of_le (le_of_suc-le-suc k))
  where
    go : (i < n → sum n f < sum n g) → (i ≡ n) ⊎ (i < n) → sum n f + f n < sum n g + g n
    go rest (inl q) =
        let here : f n < g n = subst (λ x. f x < g x) q l in
        let others = sum_mono n f g (λ j b. h j (omega arith)) in
        omega arith
    go rest (inr m) = let others = rest m in let here = h n (omega arith) in omega arith

-- nothing is counted exactly where y says no more than x
none_more : (x y : Bool) → one (y && not x) ≡ 0 → y ≡ true → x ≡ true
unfolding one
none_more true y e h = refl
none_more false true e h = absurd (omega arith)
none_more false false e h = absurd (false≢true h)

more-none : (x y : Bool) → (y ≡ true → x ≡ true) → one (y && not x) ≡ 0
unfolding one
more-none x false h = refl
more-none x true h = rw (h refl)

pub bits_none : (a : Array) (r s : Rows) → bits_set a r s ≡ 0 → Contained a s r
unfolding bits_set
bits_none a r s e v h o l =
    let row = sum_one a.names (λ v. sum row_bits λ o. one (s v o && not (r v o))) v h in
    let bit = sum_one row_bits (λ o. one (s v o && not (r v o))) o l in
    none_more (r v o) (s v o) (omega (arith, row, bit, e))

pub none-bits : (a : Array) (r s : Rows) → Contained a s r → bits_set a r s ≡ 0
unfolding bits_set
none-bits a r s c =
    sum_same a.names _ (λ v. 0) (λ v h. sum_same row_bits _ (λ o. 0) (λ o l. more-none (r v o) (s v o) (c v h o l)) ∙ sum_zeros row_bits)
    ∙ sum_zeros a.names

pub bits-same : (a : Array) (r s x y : Rows) → SameRows a r x → SameRows a s y → bits_set a r s ≡ bits_set a x y
unfolding bits_set
bits-same a r s x y e f =
    sum_same a.names _ _ (λ v h. sum_same row_bits _ _ (λ o l. ap₂ (λ (b c : Bool). one (b && not c)) (f v h o l) (e v h o l)))

-- what bounds the rounds: the bits that are not set
unfoldable pub unset : Array → Rows → ℕ
unset a r = sum a.names λ v. sum row_bits λ o. one (not (r v o))

one-not : (x y : Bool) → (x ≡ true → y ≡ true) → one (not y) ≤ one (not x)
unfolding one
one-not x true h = zero-le
one-not true false h = absurd (false≢true (h refl))
one-not false false h = le_refl 1

pub unset-less : (a : Array) (r s : Rows) → Contained a r s → (v o : ℕ) → v < a.names → o < row_bits → r v o ≡ false → s v o ≡ true
    → unset a s < unset a r
unfolding unset one
unset-less a r s c v o h l e f =
    let bit : one (not (s v o)) < one (not (r v o)) = rw (e, f) (omega arith) in
    sum_less a.names _ _ (λ w k. sum_mono row_bits _ _ (λ m b. one-not (r w m) (s w m) (c w k m b))) v h
    (sum_less row_bits _ _ (λ m b. one-not (r v m) (s v m) (c v h m b)) o l bit)

unset-most : (a : Array) (r : Rows) → unset a r ≤ a.names * row_bits
unfolding unset
unset-most a r =
    let bound = sum_bound a.names (λ v. sum row_bits λ o. one (not (r v o))) row_bits (λ v. sum_bound row_bits _ 1 (λ o. one-le (not (r v o)))) in
    rw (mul_comm a.names row_bits) bound

-- no bit is left to set
unset-none : (a : Array) (r s : Rows) → unset a r ≤ 0 → Contained a s r
unfolding unset
unset-none a r s e v h o l t =
    let row = sum_one a.names (λ v. sum row_bits λ o. one (not (r v o))) v h in
    let bit = sum_one row_bits (λ o. one (not (r v o))) o l in
    none_more (r v o) true (omega (arith, row, bit, e)) refl

-- ---- rules 1 and 3 over tables that are alike

rule1-alike : (a : Array) → WellFormed a → (t u : Table) → Alike a t u → Rule1 a t → Rule1 a u
rule1-alike a ok t u e r o h n = let few = ok.few_names in sym (e.rows o o h (omega arith)) ∙ r o h n

-- a pair of agents lives in both tables
live_alike : (a : Array) (t u : Table) → Alike a t u → (i j : ℕ) (p q : Agent) → Known a i p → Known a j q → Live t i j p q → Live u i j p q
live_alike a t u e i j p q P Q l = record {
  receiver = l.receiver;
  sender = l.sender;
  arities = l.arities;
  shares =
      let s = l.shares in
      (s.0, s.1, sym (e.rows p.channel s.0 P.channel s.1) ∙ s.2, sym (e.rows q.channel s.0 Q.channel s.1) ∙ s.3);
  fits = λ k h.
      let b : k < t.balances = rw e.many h in
      let f = l.fits k b in
      rw (← e.weights k i b P.agent, ← e.weights k j b Q.agent, ← e.bounds k b) f;
}

rule3-alike : (a : Array) → WellFormed a → (t u : Table) → Alike a t u → Rule3 a t → Rule3 a u
rule3-alike a ok t u e r i hi j hj p q ep eq l n hn o ho b =
    let P = known a ok i p ep in
    let Q = known a ok j q eq in
    let lives = live_alike a u t (alike-back a t u e) i j p q P Q l in
    sym (e.rows _ o (P.args n) ho) ∙ r i hi j hj p q ep eq lives n hn o ho (e.rows _ o (Q.args n) ho ∙ b)

-- rows that say the same make tables that are alike
alike-rows : (a : Array) (t : Table) (r s : Rows) → SameRows a r s → Alike a (with_rows t r) (with_rows t s)
alike-rows a t r s e = record { rows = λ v o h l. e v h o l; many = refl; bounds = λ k h. refl; weights = λ k i h n. refl }

-- tables that are alike stay so with other rows
with-alike : (a : Array) (t u : Table) (r : Rows) → Alike a t u → Alike a (with_rows t r) (with_rows u r)
with-alike a t u r e = record { rows = λ v o h l. refl; many = e.many; bounds = e.bounds; weights = e.weights }

-- ---- a round

module _ (a : Array) (ok : WellFormed a) (t : Table) where
  -- More rows, more live pairs: where rows s mend the table and contain rows r, what a pair that lives by r asks of r is in s.
  pub pair-least : (r s : Rows) → Mends a t s → Contained a r s → (i j : ℕ) (p q : Agent) → agent_at a i ≡ some p → agent_at a j ≡ some q
      → Live (with_rows t r) i j p q → (n : ℕ) → n < arity p → (o : ℕ) → o < row_bits → r (get_or q.args n 0) o ≡ true → s (get_or p.args n 0) o ≡ true
  pair-least r s m c i j p q ep eq l n hn o ho e =
      let P = known a ok i p ep in
      let Q = known a ok j q eq in
      let lives = live_more (with_rows t r) (with_rows t s) (c p.channel P.channel) (c q.channel Q.channel) (λ k h. (k, h, refl)) l in
      m.rule3 i (agent-below a i p ep) j (agent-below a j q eq) p q ep eq lives n hn o ho (c (get_or q.args n 0) (Q.args n) o ho e)

  asks-least : (r s : Rows) → Mends a t s → Contained a r s → (i j v o : ℕ) → o < row_bits → (x y : Option Agent) → agent_at a i ≡ x → agent_at a j ≡ y
      → pair_asks (with_rows t r) i j x y v o ≡ true → s v o ≡ true
  unfolding pair_asks
  asks-least r s m c i j v o ho none y ex ey e = absurd (false≢true e)
  asks-least r s m c i j v o ho (some p) none ex ey e = absurd (false≢true e)
  asks-least r s m c i j v o ho (some p) (some q) ex ey e =
      let k = and_split (live (with_rows t r) i j p q) _ e in
      let n = any-true (arity p) (λ n. eqb (get_or p.args n 0) v && r (get_or q.args n 0) o) k.1 in
      let b = and_split (eqb (get_or p.args n.0 0) v) (r (get_or q.args n.0 0) o) n.2 in
      subst (λ w. s w o ≡ true) (eqb-true _ _ b.0)
      (pair-least r s m c i j p q ex ey (live-Live (with_rows t r) i j p q k.0) n.0 n.1 o ho b.1)

  asked-least : (r s : Rows) → Mends a t s → Contained a r s → (v o : ℕ) → v < a.names → o < row_bits → asked a (with_rows t r) v o ≡ true → s v o ≡ true
  unfolding asked
  asked-least r s m c v o hv ho e = go (or_split (is_new a o && eqb v o) _ e)
    where
      go : (is_new a o && eqb v o ≡ true)
          ⊎ (any a.size (λ i. any a.size λ j. pair_asks (with_rows t r) i j (agent_at a i) (agent_at a j) v o) ≡ true) → s v o ≡ true
      go (inl h) =
          let k = and_split (is_new a o) (eqb v o) h in
          let is = eqb-true v o k.1 in
          subst (λ w. s w o ≡ true) (sym is) (m.rule1 o (subst (λ w. w < a.names) is hv) k.0)
      go (inr h) =
          let i = any-true a.size _ h in
          let j = any-true a.size _ i.2 in
          asks-least r s m c i.0 j.0 v o ho _ _ refl refl j.2

  round-old : (r : Rows) → Contained a r (round a t r)
  unfolding round
  round-old r v h o l e = or_left (r v o) _ e

  round-least : (r s : Rows) → Mends a t s → Contained a r s → Contained a (round a t r) s
  unfolding round
  round-least r s m c v h o l e = ⊎_elim (c v h o l) (asked-least r s m c v o h l) (or_split (r v o) (asked a (with_rows t r) v o) e)

  -- ---- a round that sets nothing

  abbrev Meets : Rows → Type 0
  Meets r = Rule1 a (with_rows t r) × Rule3 a (with_rows t r)

  settled : (r : Rows) → Contained a (round a t r) r → Meets r
  unfolding round asked pair_asks
  settled r c = (one-asked, three-asked)
    where
      one-asked : Rule1 a (with_rows t r)
      one-asked o h n =
          let few = ok.few_names in
          c o h o (omega (arith, few, h)) (or_right (r o o) _ (or_left (is_new a o && eqb o o) _ (and-join n (eq-eqb o o refl))))

      three-asked : Rule3 a (with_rows t r)
      three-asked i hi j hj p q ep eq l n hn o ho e =
          let v = get_or p.args n 0 in
          let takes : any (arity p) (λ n. eqb (get_or p.args n 0) v && r (get_or q.args n 0) o) ≡ true =
          true-any (arity p) _ n hn (and-join (eq-eqb v v refl) e) in
          let asks : pair_asks (with_rows t r) i j (agent_at a i) (agent_at a j) v o ≡ true =
          rw (ep, eq) (and-join (Live-live (with_rows t r) i j p q l) takes) in
          c v ((known a ok i p ep).args n) o ho
          (or_right (r v o) _ (or_right (is_new a o && eqb v o) _
          (true-any a.size (λ i. any a.size λ j. pair_asks (with_rows t r) i j (agent_at a i) (agent_at a j) v o) i hi
          (true-any a.size (λ j. pair_asks (with_rows t r) i j (agent_at a i) (agent_at a j) v o) j hj asks))))

  -- a round that is not the last sets a bit
  sets : (r s : Rows) → 0 < bits_set a r s → (v : ℕ) × (o : ℕ) × (v < a.names) × (o < row_bits) × (r v o ≡ false) × (s v o ≡ true)
  unfolding bits_set
  sets r s h =
      let v = sum-some a.names (λ v. sum row_bits λ o. one (s v o && not (r v o))) h in
      let o = sum-some row_bits (λ o. one (s v.0 o && not (r v.0 o))) v.2 in
      let k = and_split (s v.0 o.0) _ (one-true _ o.2) in
      (v.0, o.0, v.1, o.1, not-true _ k.1, k.0)

  -- ---- the rounds

  rounds-old : (d : ℕ) (r : Rows) → Contained a r (rounds d a t r)
  unfolding rounds
  rounds-old zero r v h o l e = e
  rounds-old (suc d) r v h o l e = rounds-old d (round a t r) v h o l (round-old r v h o l e)

  rounds-least : (d : ℕ) (r s : Rows) → Mends a t s → Contained a r s → Contained a (rounds d a t r) s
  unfolding rounds
  rounds-least zero r s m c = c
  rounds-least (suc d) r s m c = rounds-least d (round a t r) s m (round-least r s m c)

  same-meet : (r s : Rows) → SameRows a r s → Meets r → Meets s
  same-meet r s e m =
      let k = alike-rows a t r s e in
      (rule1-alike a ok (with_rows t r) (with_rows t s) k m.0, rule3-alike a ok (with_rows t r) (with_rows t s) k m.1)

  -- rounds from rows that a round leaves as they are
  stays : (d : ℕ) (r : Rows) → Contained a t.row r → Contained a (round a t r) r → Meets (rounds d a t r)
  stays d r c h =
      let m = settled r h in
      let mends : Mends a t r = record { contains = c; rule1 = m.0; rule3 = m.1 } in
      same-meet r (rounds d a t r) (contained-both a r (rounds d a t r) (rounds-old d r) (rounds-least d r r mends (λ v h o l e. e))) m

  -- as many rounds as bits are not set are enough
  rounds-meet : (d : ℕ) (r : Rows) → Contained a t.row r → unset a r ≤ d → Meets (rounds d a t r)
  unfolding rounds
  rounds-meet zero r c h = settled r (unset-none a r (round a t r) h)
  rounds-meet (suc d) r c h = go (λ k. rounds-meet d (round a t r) wider k) (decided (eqb (bits_set a r (round a t r)) 0))
    where
      wider : Contained a t.row (round a t r)
      wider v b o l e = round-old r v b o l (c v b o l e)

      go : (unset a (round a t r) ≤ d → Meets (rounds d a t (round a t r)))
          → (eqb (bits_set a r (round a t r)) 0 ≡ true) ⊎ (eqb (bits_set a r (round a t r)) 0 ≡ false) → Meets (rounds d a t (round a t r))
      go rest (inl e) = stays (suc d) r c (bits_none a r (round a t r) (eqb-true _ _ e))
      go rest (inr e) =
          let ne = eqb-false (bits_set a r (round a t r)) 0 e in
          let s = sets r (round a t r) (omega (arith, ne)) in
          let less = unset-less a r (round a t r) (round-old r) s.0 s.1 s.2 s.3 s.4 s.5 in
          rest (omega (arith, less, h))

  -- ---- the smallest rows

  pub mended-smallest : Smallest a t (mended a t)
  unfolding mended
  mended-smallest =
      let d = a.names * row_bits in
      let m = rounds-meet d t.row (λ v h o l e. e) (unset-most a t.row) in
      record {
        mends = record { contains = rounds-old d t.row; rule1 = m.0; rule3 = m.1 };
        least = λ s k. rounds-least d t.row s k k.contains;
      }

-- there is one such choice
pub smallest-same : (a : Array) (t : Table) (r s : Rows) → Smallest a t r → Smallest a t s → Each a.names λ v. Each row_bits λ o. r v o ≡ s v o
smallest-same a t r s x y = contained-both a r s (x.least s y.mends) (y.least r x.mends)

-- it is the same for tables that are alike
mends-alike : (a : Array) → WellFormed a → (t u : Table) → Alike a t u → (r : Rows) → Mends a t r → Mends a u r
mends-alike a ok t u e r m =
    let k = with-alike a t u r e in
    record {
      contains = λ v h o l b. m.contains v h o l (e.rows v o h l ∙ b);
      rule1 = rule1-alike a ok (with_rows t r) (with_rows u r) k m.rule1;
      rule3 = rule3-alike a ok (with_rows t r) (with_rows u r) k m.rule3;
    }

-- ---- rows that say the same are the smallest too

module _ (a : Array) (ok : WellFormed a) (t : Table) (r s : Rows) (same : SameRows a r s) where
  pub mends-rows : Mends a t r → Mends a t s
  mends-rows m = record {
    contains = λ v h o l e. sym (same v h o l) ∙ m.contains v h o l e;
    rule1 = λ o h n. let few = ok.few_names in sym (same o h o (omega arith)) ∙ m.rule1 o h n;
    rule3 = λ i hi j hj p q ep eq l n hn o ho e.
        sym (same _ ((known a ok i p ep).args n) o ho)
        ∙ pair-least a ok t s r m (λ v h o l e. same v h o l ∙ e) i j p q ep eq l n hn o ho e;
  }

  pub smallest-rows : Smallest a t r → Smallest a t s
  smallest-rows x = record { mends = mends-rows x.mends; least = λ y m v h o l e. x.least y m v h o l (same v h o l ∙ e) }

pub smallest-alike : (a : Array) → WellFormed a → (t u : Table) → Alike a t u → (r : Rows) → Smallest a t r → Smallest a u r
smallest-alike a ok t u e r s = record {
  mends = mends-alike a ok t u e r s.mends;
  least = λ x m. s.least x (mends-alike a ok u t (alike-back a t u e) x m);
}

-- rows that meet both rules need no bit
pub held-smallest : (a : Array) (t : Table) → Rule1 a t → Rule3 a t → Smallest a t t.row
held-smallest a t r₁ r₃ = record { mends = record { contains = λ v h o l e. e; rule1 = r₁; rule3 = r₃ }; least = λ s m. m.contains }

-- rows of bits that a new opens get no other: refusal 19 passes what is mended
pub smallest-opened : (a : Array) (t : Table) → (Each a.names λ v. Each row_bits λ o. t.row v o ≡ true → is_new a o ≡ true) → (r : Rows)
    → Smallest a t r → Each a.names λ v. Each row_bits λ o. r v o ≡ true → is_new a o ≡ true
smallest-opened a t h r s =
    s.least (λ v o. is_new a o) record { contains = h; rule1 = λ o l n. n; rule3 = λ i hi j hj p q ep eq l n hn o ho e. e }

-- ---- what is left to judge of a mended table: rules 2, 4 and 5

pub rules-left : (a : Array) (u : Table) → Rule1 a u → Rule3 a u → Rules a u ↔ (Rule2 a u × Rule4 a u × Rule5 a u)
rules-left a u r₁ r₃ = (λ r. (r.rule2, r.rule4, r.rule5), λ h. record { rule1 = r₁; rule2 = h.0; rule3 = r₃; rule4 = h.1; rule5 = h.2 })
