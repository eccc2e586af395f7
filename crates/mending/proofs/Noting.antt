-- Pairs while rows grow: what breaks rule 3 uses a noted name, before and after.
use Prim.Native.Nat.{ℕ, ◌+◌, ◌≤◌, ◌<◌}
use native.Mathlib.Omega.{arith}
use mathlib.Core.Path.{◌≡◌, refl, sym, ap, ap₂, ◌∙◌, subst}
use mathlib.Core.Logic.{inl, inr}
use mathlib.Core.Bool.{Bool, true, false, ◌&&◌, ◌||◌, true≢false}
use mathlib.Core.List.{List}
use lib.Dec.{eqb, ltb}
use lib.ListN.{length, get_or, replicate}
use borrow.Author.Tests.{lt-ltb, ltb-false, leb-true, le-leb, not-true, not-false}
use Rattle.laws.specs.Search.{every}
use Rattle.laws.proofs.Search.{decided, and_split, and-join, or_split, or_right, or_left, or-false, every_true, true-every, every-false, any_same, true-any}
use Rattle.laws.proofs.Search.{any_false, any-true}
use Rattle.marks.specs.Marks.{marked, share, inside}
use Rattle.marks.proofs.Laws.{marked-none, inside-marked, marked-inside, share-inside}
use Rattle.model.specs.Memory.{is_out}
use Rattle.model.specs.Rules.{Live, within}
use Rattle.model.specs.Mend.{Rows, with_rows}
use Rattle.model.proofs.Verdict.{live-Live, live_more}
use Rattle.records.specs.declared.Record.{Record}
use Rattle.records.specs.Record.{node_of, args_of}
use Rattle.records.specs.Kinds.{is_receiver}
use Rattle.records.proofs.KindLaws.{sender-is}
use Rattle.arrays.specs.Agents.{agent_in}
use Rattle.arrays.proofs.Agents.{agent-is, arity-is}
use Rattle.loads.specs.Loads.{load_in}
use Rattle.pairs.specs.declared.Side.{Side}
use Rattle.pairs.specs.Pairs.{Setting, setting, Given, Held, array_in, table_in, bears_both, argument_holds, breaks_pair}
use Rattle.pairs.proofs.Laws.{near, alive, live-near, meet-sends, live-is, agent-p, arities, arg_is}
use Rattle.senders.specs.Sets.{sends_marked}
use Rattle.mending.specs.Growing.{Below, Grew, SentIf, Takes, Gained, Only, Sends, Hears, RuleThree, touches, Noted}
use Rattle.mending.proofs.Growth.{unnoted}

-- a setting with other rows
abbrev pub regrown : Setting → List ℕ → Setting
regrown S rows = setting S.f S.t S.n rows S.loads S.bounds

pub given-again : {S : Setting} → Given S → {rows : List ℕ} → length rows ≡ length S.rows → Given (regrown S rows)
given-again g e = record {
  read = g.read;
  lists = record { few = g.lists.few; many_rows = e ∙ g.lists.many_rows; many_bounds = g.lists.many_bounds };
  weighed = g.weighed;
}

-- ---- a pair breaks rule 3 where it is live and an argument is not contained

pub broken-live : (S : Setting) (p q : Side) → breaks_pair 3 S p q ≡ true → alive S p q ≡ true
broken-live S p q e = (and_split (alive S p q) _ e).0

broken-at : (S : Setting) (p q : Side) → breaks_pair 3 S p q ≡ true → (m : ℕ) × (m < p.node.arity) × (argument_holds S.rows p q m ≡ false)
broken-at S p q e = every-false p.node.arity _ (not-true _ (and_split (alive S p q) _ e).1)

-- names that are not marked
module _ (names : List ℕ) (p q : Side) (e : touches names p q ≡ false) where
  channel-off : marked names 0 p.node.name ≡ false
  channel-off = (or-false _ _ e).0

  pub own-off : marked names 0 q.node.name ≡ false
  own-off = (or-false (marked names 0 q.node.name) _ (or-false (marked names 0 p.node.name) _ e).1).0

  pub sent-off : (m : ℕ) → m < q.node.arity → marked names 0 (get_or q.node.args m 0) ≡ false
  sent-off = any_false _ _ (or-false (marked names 0 q.node.name) _ (or-false (marked names 0 p.node.name) _ e).1).1

-- ---- what is sent to a receiver

-- what is sent to p is in every choice of rows that meet rule 3 and contain these
abbrev pub Asked : Setting → Side → List ℕ → Type 0
Asked S p sent = (M : Rows) → RuleThree S M → Below S.rows M → Takes p.node.arity p.node.args sent M

-- ---- what was noted stays noted

module _ {S : Setting} (g : Given S) {p : Side} (hp : Held S p) (rp : is_receiver (node_of p.node) ≡ true) {q : Side} (hq : Held S q) where
  module _ {C : Rows → Type 0} {names rows' names' : List ℕ} (a : Grew C S.rows names rows' names') where
    same-share : touches names' p q ≡ false → share rows' p.node.name rows' q.node.name ≡ share S.rows p.node.name S.rows q.node.name
    unfolding share
    same-share off =
        any_same 256 _ _ (λ o h.
        ap₂ ◌&&◌ (unnoted a p.node.name (channel-off names' p q off) o h) (unnoted a q.node.name (own-off names' p q off) o h))

    -- where no name is noted, a pair that breaks the rule was live before
    was-live : touches names' p q ≡ false → breaks_pair 3 (regrown S rows') p q ≡ true → alive S p q ≡ true
    was-live off e =
        ap (λ (b : Bool). (is_out (node_of q.node) && eqb p.node.arity q.node.arity && b)
        && every S.n (bears_both S.loads S.bounds p.number q.number)) (sym (same-share off))
        ∙ broken-live (regrown S rows') p q e

    -- and one whose parameters contained what it sends uses a noted name
    noted-taken : (alive S p q ≡ true → (m : ℕ) → m < p.node.arity → inside S.rows (get_or q.node.args m 0) rows' (get_or p.node.args m 0) ≡ true)
        → Noted (regrown S rows') names' p q
    noted-taken takes e =
        elim (decided (touches names' p q)) [
          | inl on ↦ on
          | inr off ↦
              let l = was-live off e in
              let x = broken-at (regrown S rows') p q e in
              let m = x.0 in
              let few : m < q.node.arity = subst (λ (n : ℕ). m < n) (arities g hp rp hq (live-near S p q l)) x.1 in
              absurd (true≢false (sym (marked-inside rows' _ rows' _ (λ o h on.
              inside-marked S.rows _ rows' _ (takes l m x.1) o h (sym (unnoted a _ (sent-off names' p q off m few) o h) ∙ on))) ∙ x.2))
        ]

    pub noted-grew : Noted S names p q → Noted (regrown S rows') names' p q
    noted-grew was e =
        elim (decided (breaks_pair 3 S p q)) [
          | inl k ↦ wider (was k)
          | inr k ↦
              noted-taken (λ l m few.
              let holds = every_true _ _ (not-false _ (rw l at k)) m few in
              marked-inside S.rows _ rows' _ (λ o h on. a.more _ o h (inside-marked S.rows _ S.rows _ holds o h on))) e
        ]
      where
        wider : touches names p q ≡ true → touches names' p q ≡ true
        wider k =
            elim (or_split (marked names 0 p.node.name) (marked names 0 q.node.name || sends_marked names q.node) k) [
              | inl x ↦ or_left _ _ (a.keeps _ x)
              | inr x ↦
                  or_right (marked names' 0 p.node.name) _
                  (elim (or_split (marked names 0 q.node.name) (sends_marked names q.node) x) [
                    | inl y ↦ or_left _ _ (a.keeps _ y)
                    | inr y ↦
                        let z = any-true q.node.arity (λ m. marked names 0 (get_or q.node.args m 0)) y in
                        or_right (marked names' 0 q.node.name) _
                        (true-any q.node.arity (λ m. marked names' 0 (get_or q.node.args m 0)) z.0 z.1 (a.keeps _ z.2))
                  ])
            ]

  -- ---- a pair that was looked at

  -- rows that meet rule 3 and contain these have what a live pair sends in the parameter's row
  matched : alive S p q ≡ true → (M : Rows) → RuleThree S M → Below S.rows M → (m : ℕ) → m < p.node.arity → (o : ℕ) → o < 256
      → M (get_or q.node.args m 0) o ≡ true → M (get_or p.node.args m 0) o ≡ true
  unfolding within
  matched l M rule below m few o h on =
      let agent = agent-p g hp rp hq in
      let sends = meet-sends S p q (live-near S p q l) in
      let other = (sender-is q.node sends).0 in
      let a = array_in S in
      let P = agent_in a p.node in
      let Q = agent_in a q.node in
      let lives : Live (table_in S) p.number q.number P Q = live-Live (table_in S) p.number q.number P Q (live-is g hp rp hq other ∙ l) in
      let more : Live (with_rows (table_in S) M) p.number q.number P Q =
      live_more (table_in S) (with_rows (table_in S) M) (below p.node.name) (below q.node.name) (λ k b. (k, b, refl)) lives in
      let few' : m < length (args_of p.node) = rw (arity-is g.read hp) few in
      let also : m < q.node.arity = subst (λ (n : ℕ). m < n) (arities g hp rp hq (live-near S p q l)) few in
      subst (λ (x : ℕ). M x o ≡ true) (arg_is p.node m few)
      (rule p.number hp.below q.number hq.below P Q (agent-is g.read hp agent) (agent-is g.read hq other) more m few' o h
      (subst (λ (x : ℕ). M x o ≡ true) (sym (arg_is q.node m also)) on))

  -- what a live pair sends is in the list
  module _ {sent sent' : List ℕ} (x : SentIf (alive S p q) S.rows q.node sent sent') where
    pub sent-here : Sends S p sent' q
    sent-here l m few =
        let also : m < q.node.arity = subst (λ (n : ℕ). m < n) (arities g hp rp hq (live-near S p q l)) few in
        marked-inside S.rows _ sent' m (λ o h on.
        x.is m o h ∙ or_right (marked sent m o) _ (and-join l (and-join (lt-ltb m q.node.arity also) on)))

  -- and once the parameters' rows contain it, no such pair breaks the rule without a noted name
  pub sent-noted : (sent : List ℕ) {names rows' names' : List ℕ} {C : Rows → Type 0} → Grew C S.rows names rows' names' → Sends S p sent q
      → Takes p.node.arity p.node.args sent (marked rows') → Noted (regrown S rows') names' p q
  sent-noted sent {rows' = rows'} a sends takes =
      noted-taken a (λ l m few. marked-inside S.rows _ rows' _ (λ o h on. takes m few o h (inside-marked S.rows _ sent m (sends l m few) o h on)))

-- ---- what live senders send

module _ (S : Setting) (p : Side) where
  pub gained-same : (sent : List ℕ) → Gained S p sent sent
  gained-same sent = record { size = refl; from = λ m o h on. inl on }

  pub gained-trans : {a b c : List ℕ} → Gained S p a b → Gained S p b c → Gained S p a c
  gained-trans x y = record {
    size = y.size ∙ x.size;
    from = λ m o h on. elim (y.from m o h on) [ inl k ↦ x.from m o h k | inr k ↦ inr k ];
  }

  -- one sender more
  pub gained-more : {q : Side} → Held S q → {a b : List ℕ} → SentIf (alive S p q) S.rows q.node a b → Gained S p a b
  gained-more {q} hq {a} x = record {
    size = x.size;
    from = λ m o h on.
        elim (or_split (marked a m o) _ (sym (x.is m o h) ∙ on)) [
          | inl k ↦ inl k
          | inr k ↦
              let l = and_split (alive S p q) _ k in
              inr record { q = q; held = hq; live = l.0; holds = (and_split (ltb m q.node.arity) _ l.1).1 }
        ];
  }

  -- to begin with there is nothing
  pub gained-only : {sent : List ℕ} → Gained S p (replicate 32 0) sent → Only S p sent
  gained-only x m o h on = elim (x.from m o h on) [ inl k ↦ absurd (true≢false (sym k ∙ marked-none 32 m o)) | inr k ↦ k ]

-- it is in every choice of rows that meet rule 3 and contain these
pub gained-asked : {S : Setting} → Given S → {p : Side} → Held S p → is_receiver (node_of p.node) ≡ true → {sent sent' : List ℕ} → Gained S p sent sent'
    → Asked S p sent → Asked S p sent'
gained-asked g hp rp x was M rule below m few o h on =
    elim (x.from m o h on) [
      | inl k ↦ was M rule below m few o h k
      | inr k ↦ matched g hp rp k.held k.live M rule below m few o h (below _ o h k.holds)
    ]

-- ---- receivers alike

-- a sender that is live beside p is so beside r, where r receives by the same arity, on a channel that holds as much, and weighs no more
module _ (S : Setting) (rows' : List ℕ) (p r q : Side) (more : (v o : ℕ) → o < 256 → marked S.rows v o ≡ true → marked rows' v o ≡ true) where
  lives-on : r.node.arity ≡ p.node.arity
      → ((o : ℕ) → o < 256 → marked S.rows p.node.name o ≡ true → marked rows' r.node.name o ≡ true)
      → ((k : ℕ) → k < S.n → load_in S.loads r.number k ≤ load_in S.loads p.number k) → alive S p q ≡ true → alive (regrown S rows') r q ≡ true
  lives-on arity channel light l =
      let x = and_split (near S p q) _ l in
      let y = and_split (is_out (node_of q.node) && eqb p.node.arity q.node.arity) _ x.0 in
      and-join
      (and-join (subst (λ (n : ℕ). is_out (node_of q.node) && eqb n q.node.arity ≡ true) (sym arity) y.0)
      (share-inside S.rows _ rows' _ rows' _ (marked-inside S.rows p.node.name rows' r.node.name channel)
      (share-inside S.rows _ rows' _ S.rows _ (marked-inside S.rows q.node.name rows' q.node.name (more q.node.name)) y.1)))
      (true-every S.n _ (λ k h.
      le-leb (load_in S.loads r.number k + load_in S.loads q.number k) (get_or S.bounds k 0)
      (omega (
        arith,
        leb-true (load_in S.loads p.number k + load_in S.loads q.number k) (get_or S.bounds k 0) (every_true S.n _ x.1 k h),
        light k h,
      ))))

-- what is sent to p, once rows have grown
pub only-grew : (S : Setting) (p : Side) (sent rows' : List ℕ) → ((v o : ℕ) → o < 256 → marked S.rows v o ≡ true → marked rows' v o ≡ true)
    → Only S p sent → Only (regrown S rows') p sent
only-grew S p sent rows' more only m o h on =
    let x = only m o h on in
    record {
      q = x.q;
      held = x.held;
      live = lives-on S rows' p p x.q more refl (more p.node.name) (λ k l. omega arith) x.live;
      holds = more _ o h x.holds;
    }

-- and what is asked of a receiver that hears what p does
pub only-asked : {S : Setting} → Given S → {p r : Side} → Held S r → Hears S.rows S.loads S.n p r → (sent : List ℕ) → Only S p sent → Asked S r sent
only-asked {S} g {p} {r} hr x sent only M rule below m few o h on =
    let s = only m o h on in
    let l = lives-on S S.rows p r s.q (λ v y k e. e) x.arity (inside-marked S.rows _ S.rows _ x.channel)
    (λ k l. omega (arith, ltb-false (load_in S.loads p.number k) (load_in S.loads r.number k) (not-true _ (every_true S.n _ x.light k l))))
    s.live in
    matched g hr x.receives s.held l M rule below m few o h (below _ o h s.holds)

-- to begin with, what is sent is what the parameters have
pub asked-begun : (S : Setting) (p : Side) {sent : List ℕ} → SentIf true S.rows p.node (replicate 32 0) sent → Asked S p sent
asked-begun S p x M rule below m few o h on =
    elim (or_split (marked (replicate 32 0) m o) _ (sym (x.is m o h) ∙ on)) [
      | inl k ↦ absurd (true≢false (sym k ∙ marked-none 32 m o))
      | inr k ↦ below _ o h (and_split (ltb m p.node.arity) _ k).1
    ]

-- what was sent stays so while more is
pub sent-more : (S : Setting) (p q : Side) {on : Bool} {r : Record} {sent sent' : List ℕ} → SentIf on S.rows r sent sent' → Sends S p sent q
    → Sends S p sent' q
sent-more S p q {sent = sent} {sent' = sent'} x was l m few =
    marked-inside S.rows _ sent' m (λ o h e. x.is m o h ∙ or_left _ _ (inside-marked S.rows _ sent m (was l m few) o h e))
