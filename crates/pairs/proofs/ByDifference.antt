-- Liveness and rule 4 by the differences of a receiver are those by sums.
use Prim.Native.Nat.{ℕ, ◌+◌, ◌-◌, ◌≤◌, ◌<◌}
use native.Mathlib.Omega.{arith}
use mathlib.Core.Path.{◌≡◌, ap, ap₂, ◌∙◌}
use mathlib.Core.Logic.{inl, inr}
use mathlib.Core.Bool.{Bool, true, false, cond, not, ◌&&◌}
use mathlib.Core.List.{List}
use lib.Dec.{eqb, leb, ltb}
use lib.ListN.{length, get_or, set}
use lib.Seq.{get_or-set_same, get_or-set_other}
use borrow.Author.Count.{below_more}
use borrow.Author.Tests.{ltb-true, ltb-false, leb-true, leb-false, lt-ltb, le-ltb, le-leb}
use Rattle.laws.proofs.Search.{decided, same_test, every-same}
use Rattle.model.specs.Tree.{is_agent}
use Rattle.model.specs.Memory.{is_out, is_resource}
use Rattle.records.specs.Record.{node_of}
use Rattle.records.specs.Kinds.{is_receiver}
use Rattle.records.proofs.KindLaws.{receiver-is, sender-is}
use Rattle.arrays.proofs.Agents.{left_below, node-is}
use Rattle.loads.specs.Loads.{load_in}
use Rattle.pairs.specs.declared.Side.{Side}
use Rattle.pairs.specs.Pairs.{Setting, Given, Held, gone_of, bears_both, balance_holds, holds_at, all_hold, breaks_pair}
use Rattle.pairs.specs.Pairs.{give_of, room_of, capped, Differences, DifferencesOf, fits_beside, gives_to, live_by, holds_by, all_hold_by}
use Rattle.pairs.specs.Pairs.{Small, NeedThere, Rooms, Figures}
use Rattle.pairs.proofs.Laws.{near, alive, meet-sends, argument-rows}

-- ---- filling the lists

module _ (loads bounds : List ℕ) (p : Side) where
  -- one balance more
  pub differences-more : (k : ℕ) (gives rooms : List ℕ) → k < length gives → k < length rooms → Differences k loads bounds p gives rooms
      → (x y : ℕ) → x ≡ give_of loads p k → y ≡ room_of loads bounds p k → Differences (k + 1) loads bounds p (set gives k x) (set rooms k y)
  differences-more k gives rooms fg fr before x y ex ey =
      below_more (λ j. (get_or (set gives k x) j 0 ≡ give_of loads p j) × (get_or (set rooms k y) j 0 ≡ room_of loads bounds p j)) k
      (λ j h.
      let other : j ≡ k → ⊥ = λ e. absurd (omega (arith, h, e)) in
      (get_or-set_other gives k j x 0 other ∙ (before j h).0, get_or-set_other rooms k j y 0 other ∙ (before j h).1))
      (get_or-set_same gives k x 0 fg ∙ ex, get_or-set_same rooms k y 0 fr ∙ ey)

-- ---- numbers

-- two weights are within a bound exactly where the second is below what the first leaves
room-is : (bound w v : ℕ) → w < 65536 → v < 65536 → ltb v ((capped bound + 1) - w) ≡ leb (w + v) bound
room-is bound w v hw hv =
    elim (decided (ltb bound 131071)) [
      | inl e ↦
          rw e (same_test (ltb v ((bound + 1) - w)) (leb (w + v) bound) (λ h. le-leb (w + v) bound (omega (arith, ltb-true v ((bound + 1) - w) h)))
          (λ h. lt-ltb v ((bound + 1) - w) (omega (arith, leb-true (w + v) bound h))))
      | inr e ↦ rw (e, lt-ltb v (131072 - w) (omega arith), le-leb (w + v) bound (omega (arith, ltb-false bound 131071 e)))
    ]

-- a need is met exactly where both continuations are within what goes of both weights
need-is : (gone left r w : ℕ) → w < 65536 → not (ltb ((65536 + gone) - left) ((r + 65536) - w)) ≡ leb (left + r) (w + gone)
need-is gone left r w h =
    elim (decided (leb (left + r) (w + gone))) [
      | inl e ↦ rw (e, le-ltb ((65536 + gone) - left) ((r + 65536) - w) (omega (arith, leb-true (left + r) (w + gone) e)))
      | inr e ↦ rw (e, lt-ltb ((65536 + gone) - left) ((r + 65536) - w) (omega (arith, leb-false (left + r) (w + gone) e)))
    ]

-- ---- an agent's weight, and what a sender needs

module _ {S : Setting} (g : Given S) {q : Side} (hq : Held S q) where
  pub light : is_agent (node_of q.node) ≡ true → (k : ℕ) → k < S.n → load_in S.loads q.number k < 65536
  light agent k h = g.weighed.light _ k (ap is_agent (node-is g.read hq) ∙ agent) h

  pub need-there : is_out (node_of q.node) ≡ true → (k : ℕ) → k < S.n → NeedThere S.loads q.number q.node.left k
  need-there sends k h =
      let agent = (sender-is q.node sends).0 in
      let left = left_below g.read hq agent in
      ((g.weighed.half _ left k h).0, g.weighed.small _ k left h, (g.weighed.half _ hq.below k h).0, light agent k h)

-- ---- a receiver and its differences

gone-less : (b : Bool) (w : ℕ) → gone_of b w ≤ w
gone-less true w = omega arith
gone-less false w = omega arith

capped-less : (b : ℕ) → capped b ≤ 131071
capped-less b = elim (decided (ltb b 131071)) [ inl e ↦ rw e (omega (arith, ltb-true b 131071 e)) | inr e ↦ rw e (omega arith) ]

module _ {S : Setting} (g : Given S) {p : Side} (hp : Held S p) (rp : is_receiver (node_of p.node) ≡ true) {gives rooms : List ℕ}
    (d : DifferencesOf S p gives rooms) where
  light-p : (k : ℕ) → k < S.n → load_in S.loads p.number k < 65536
  light-p = light g hp (receiver-is p.node rp).0

  -- the lists may be compared
  gives-small : (k : ℕ) → k < S.n → Small gives k
  gives-small k h = (
    omega (arith, g.lists.few, d.many_gives),
    rw (d.are k h).0 (omega (arith, light-p k h, gone-less (is_resource (node_of p.node)) (load_in S.loads p.number k))),
  )

  pub rooms-there : (j : ℕ) → j < S.t.nodes → Rooms S.n S.loads rooms j
  rooms-there j below = (
    omega (arith, g.lists.few, d.many_rooms),
    λ k h. (rw (d.are k h).1 (omega (arith, capped-less (get_or S.bounds k 0))), g.weighed.half j below k h),
  )

  module _ {q : Side} (hq : Held S q) where
    module _ (sends : is_out (node_of q.node) ≡ true) where
      fits-is : (k : ℕ) → k < S.n → fits_beside S.loads rooms q.number k ≡ bears_both S.loads S.bounds p.number q.number k
      fits-is k h = rw (d.are k h).1 (room-is _ _ _ (light-p k h) (light g hq (sender-is q.node sends).0 k h))

      gives-is : (k : ℕ) → k < S.n → gives_to S.loads gives q.number q.node.left k ≡ balance_holds S.loads p q k
      gives-is k h = rw (d.are k h).0 (need-is _ _ _ _ (light g hq (sender-is q.node sends).0 k h))

    -- the pair is live
    pub live-by : live_by S.rows S.loads rooms S.n p q ≡ alive S p q
    live-by = elim (decided (near S p q)) [ inl e ↦ rw e (every-same _ _ _ (fits-is (meet-sends S p q e))) | inr e ↦ rw e ]

    module _ (e : near S p q ≡ true) where
      -- the rule holds at a figure, and at every figure
      pub holds_by_lem : (rule m : ℕ) → m < cond (eqb rule 3) p.node.arity S.n
          → holds_by rule S.rows S.loads gives p q m ≡ holds_at rule S.rows S.loads p q m
      holds_by_lem rule m h = elim (decided (eqb rule 3)) [ inl three ↦ rw three | inr four ↦ rw four (gives-is (meet-sends S p q e) m (rw four at h)) ]

      all-by : (rule : ℕ) → all_hold_by rule S.n S.rows S.loads gives p q ≡ all_hold rule S.n S.rows S.loads p q
      all-by rule =
          elim (decided (eqb rule 3)) [ inl three ↦ rw three | inr four ↦ rw four (every-same _ _ _ (gives-is (meet-sends S p q e))) ]

      pub figures-there : (rule : ℕ) → Figures rule S.n S.rows S.loads gives p q
      figures-there rule = (
        λ three m h. argument-rows g hp rp hq e m h,
        λ four k h. (gives-small k h, need-there g hq (meet-sends S p q e) k h),
      )

    -- the pair is live, and breaks the rule
    pub breaks-by : (rule : ℕ)
        → live_by S.rows S.loads rooms S.n p q && not (all_hold_by rule S.n S.rows S.loads gives p q) ≡ breaks_pair rule S p q
    breaks-by rule =
        elim (decided (near S p q)) [
          | inl e ↦ ap₂ (λ (a b : Bool). a && not b) live-by (all-by e rule)
          | inr e ↦ rw e
        ]
