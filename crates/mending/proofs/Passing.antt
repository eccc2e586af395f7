-- Passes: after each, a pair that breaks rule 3 uses a name whose row changed in it. One that changes no row is the last, and each other sets a mark.
use Prim.Native.Nat.{ℕ, ◌+◌, ◌≤◌, ◌<◌}
use native.Mathlib.Omega.{arith}
use mathlib.Core.Path.{◌≡◌, refl, sym, ap, ◌∙◌, subst}
use mathlib.Core.Logic.{inl, inr}
use mathlib.Core.Bool.{Bool, true, false, not, ◌||◌, true≢false}
use mathlib.Core.List.{List}
use mathlib.Core.Option.{none, some}
use lib.Dec.{ltb}
use lib.ListN.{length, get_or, replicate}
use borrow.Author.Tests.{ltb-true, ltb-false, lt-ltb, not-false}
use Rattle.laws.specs.Lists.{one}
use Rattle.laws.proofs.Search.{decided, and-join, or_split, or_left, or_right, or-false, every_true, every-false, any-true, sum_mono}
use Rattle.laws.proofs.Lists.{one-le}
use Rattle.marks.specs.Marks.{marked, inside}
use Rattle.marks.proofs.Laws.{marked-none, marked-past, inside-marked}
use Rattle.model.specs.Tree.{Array, Agent, agent_at, is_agent}
use Rattle.model.specs.Memory.{is_out}
use Rattle.model.specs.Rules.{row_bits, Rule3, Rule3At, Live}
use Rattle.model.specs.Mend.{Rows, Contained}
use Rattle.model.proofs.Verdict.{Live-live, decides3}
use Rattle.model.proofs.Alike.{known}
use Rattle.model.proofs.Mend.{unset, unset-less}
use Rattle.records.specs.Record.{node_of, args_of, record_of}
use Rattle.records.specs.Kinds.{is_receiver}
use Rattle.records.proofs.KindLaws.{agent-sort}
use Rattle.arrays.specs.Agents.{agent_in}
use Rattle.arrays.proofs.Agents.{agent-is, no-agent, arity-is}
use Rattle.pairs.specs.declared.Side.{Side}
use Rattle.pairs.specs.Pairs.{Setting, Given, Held, array_in, table_in, argument_holds, all_hold, breaks_pair}
use Rattle.pairs.proofs.Laws.{alive, live-near, meet-sends, live-is, agent-p, name-row, argument_is}
use Rattle.senders.specs.Sets.{every_name, sends_marked}
use Rattle.senders.proofs.Laws.{marked-any, sends-any}
use Rattle.mending.specs.Growing.{Below, Grew, RuleThree, touches, Noted, Swept, Clean, Finished}
use Rattle.mending.proofs.Noting.{regrown, given-again, broken-live, noted-grew}
use Rattle.mending.proofs.Along.{held_at}

-- only what sends breaks anything
sends-if : (S : Setting) (p q : Side) → breaks_pair 3 S p q ≡ true → is_out (node_of q.node) ≡ true
sends-if S p q e = meet-sends S p q (live-near S p q (broken-live S p q e))

-- every receiver is in reach where every name is
in_reach_lem : {S : Setting} → Given S → {p : Side} → Held S p → is_receiver (node_of p.node) ≡ true → marked every_name 0 p.node.name ≡ true
in_reach_lem g {p} hp rp = marked-any _ (omega (arith, name-row g hp (agent-p g hp rp hp), g.lists.many_rows))

-- ---- after the first pass, and after another

pub clean-first : {S : Setting} → Given S → (names : List ℕ) → Swept S names every_name every_name true S.t.nodes → Clean S names
clean-first {S} g names swept p q hp hq rp e =
    swept p.number hp.below p hp refl rp (in_reach_lem g hp rp) q hq (sends-any g hq (sends-if S p q e)) e

module _ {S : Setting} (g : Given S) (old : List ℕ) (clean : Clean S old) {C : Rows → Type 0} {rows₁ names₁ rows₂ names₂ : List ℕ}
    (a : Grew C S.rows (replicate 4 0) rows₁ names₁) (first : Swept (regrown S rows₁) names₁ every_name old true S.t.nodes)
    (b : Grew C rows₁ names₁ rows₂ names₂) (second : Swept (regrown S rows₂) names₂ old old false S.t.nodes) where
  h₁ : Given (regrown S rows₁)
  h₁ = given-again g a.size

  pub clean-pass : Clean (regrown S rows₂) names₂
  clean-pass p q hp hq rp e =
      let sends = sends-if (regrown S rows₂) p q e in
      elim (decided (touches old p q)) [
        | inr off ↦
            let before : Noted S (replicate 4 0) p q = λ k. absurd (true≢false (sym (clean p q hp hq rp k) ∙ off)) in
            noted-grew h₁ hp rp hq b (noted-grew g hp rp hq a before) e
        | inl on ↦
            elim (decided (marked old 0 p.node.name)) [
              | inl x ↦ noted-grew h₁ hp rp hq b (first p.number hp.below p hp refl rp x q hq (sends-any g hq sends)) e
              | inr x ↦ second p.number hp.below p hp refl rp x q hq (and-join sends (rw x at on)) e
            ]
      ]

-- ---- no name is left

-- nothing is marked
unmarked : (names : List ℕ) → length names ≡ 4 → inside names 0 (replicate 4 0) 0 ≡ true → (v : ℕ) → marked names 0 v ≡ false
unmarked names four e v =
    elim (decided (ltb v 256)) [
      | inl h ↦
          elim (decided (marked names 0 v)) [
            | inl on ↦ absurd (true≢false (sym (inside-marked names 0 (replicate 4 0) 0 e v (ltb-true v 256 h) on) ∙ marked-none 4 0 v))
            | inr off ↦ off
          ]
      | inr h ↦ marked-past names v four (ltb-false v 256 h)
    ]

-- so no pair uses a marked name
untouched : (names : List ℕ) → length names ≡ 4 → inside names 0 (replicate 4 0) 0 ≡ true → (p q : Side) → touches names p q ≡ false
untouched names four e p q =
    elim (decided (sends_marked names q.node)) [
      | inl k ↦
          let x = any-true q.node.arity (λ m. marked names 0 (get_or q.node.args m 0)) k in
          absurd (true≢false (sym x.2 ∙ unmarked names four e _))
      | inr k ↦ rw (unmarked names four e p.node.name, unmarked names four e q.node.name, k)
    ]

-- a name is marked
some-marked : (names : List ℕ) → inside names 0 (replicate 4 0) 0 ≡ false → (v : ℕ) × (v < 256) × (marked names 0 v ≡ true)
unfolding inside
some-marked names e =
    let x = every-false 256 _ e in
    (x.0, x.1, not-false _ (or-false _ _ x.2).0)

some_inj : {x y : Agent} → some x ≡ some y → x ≡ y
some_inj e = cc

-- where no pair breaks it, the rule holds
module _ {S : Setting} (g : Given S) (sound : (p q : Side) → Held S p → Held S q → is_receiver (node_of p.node) ≡ true → breaks_pair 3 S p q ≡ false) where
  abbrev A : Array
  A = array_in S

  agent-there : (i : ℕ) (P : Agent) → i < S.t.nodes → agent_at A i ≡ some P → is_agent (node_of (record_of S.f S.t i)) ≡ true
  agent-there i P h e =
      elim (decided (is_agent (node_of (record_of S.f S.t i)))) [
        | inl k ↦ k
        | inr k ↦ let z : some P ≡ none = sym e ∙ no-agent g.read (held_at S i h) k in absurd (true≢false (cc))
      ]

  agent-same : (i : ℕ) (P : Agent) → i < S.t.nodes → agent_at A i ≡ some P → P ≡ agent_in A (record_of S.f S.t i)
  agent-same i P h e = some_inj (sym e ∙ agent-is g.read (held_at S i h) (agent-there i P h e))

  -- a live pair of two nodes
  pair-holds : {p q : Side} → Held S p → Held S q → is_agent (node_of p.node) ≡ true → is_agent (node_of q.node) ≡ true
      → Live (table_in S) p.number q.number (agent_in A p.node) (agent_in A q.node) → (n : ℕ) → n < length (args_of p.node)
      → Rule3At (table_in S) (agent_in A p.node) (agent_in A q.node) n
  pair-holds {p} {q} hp hq kp kq lives n h =
      let rp : is_receiver (node_of p.node) ≡ true = (agent-sort p.node kp).0 ∙ lives.receiver in
      let l : alive S p q ≡ true = sym (live-is g hp rp hq kq) ∙ Live-live (table_in S) _ _ _ _ lives in
      let few : n < p.node.arity = rw (arity-is g.read hp) at h in
      let holds : all_hold 3 S.n S.rows S.loads p q ≡ true =
      elim (decided (all_hold 3 S.n S.rows S.loads p q)) [
        | inl k ↦ k
        | inr k ↦ absurd (true≢false (sym (and-join l (ap not k)) ∙ sound p q hp hq rp))
      ] in
      (decides3 (table_in S) (agent_in A p.node) (agent_in A q.node) n).0
      (argument_is g hp rp hq (live-near S p q l) n few ∙ every_true p.node.arity (argument_holds S.rows p q) holds n few)

  pub rule-three : Rule3 A (table_in S)
  rule-three i hi j hj P Q ep eq =
      let x = agent-same i P hi ep in
      let y = agent-same j Q hj eq in
      subst (λ (Z : Agent). Live (table_in S) i j Z Q → (n : ℕ) → n < length Z.args → Rule3At (table_in S) Z Q n) (sym x)
      (subst (λ (Z : Agent). Live (table_in S) i j (agent_in A (record_of S.f S.t i)) Z → (n : ℕ)
      → n < length (args_of (record_of S.f S.t i)) → Rule3At (table_in S) (agent_in A (record_of S.f S.t i)) Z n) (sym y)
      (pair-holds (held_at S i hi) (held_at S j hj) (agent-there i P hi ep) (agent-there j Q hj eq)))

-- ---- rows between the given ones and those that every choice contains

pub record Between (S : Setting) (rows' : List ℕ) : Type 0 where
  pub size : length rows' ≡ length S.rows
  pub more : (v o : ℕ) → o < 256 → marked S.rows v o ≡ true → marked rows' v o ≡ true
  pub least : (M : Rows) → RuleThree S M → Below S.rows M → Below rows' M

pub between-same : (S : Setting) → Between S S.rows
between-same S = record { size = refl; more = λ v o h e. e; least = λ M c l. l }

pub between_more : {S : Setting} {rows names rows' names' : List ℕ} → Between S rows → Grew (RuleThree S) rows names rows' names' → Between S rows'
between_more b a = record {
  size = a.size ∙ b.size;
  more = λ v o h e. a.more v o h (b.more v o h e);
  least = λ M c l. a.least M c (b.least M c l);
}

pub between-after : {S : Setting} {names rows names₁ rows' : List ℕ} → Grew (RuleThree S) S.rows names rows names₁ → Between (regrown S rows) rows'
    → Between S rows'
between-after a b = record {
  size = b.size ∙ a.size;
  more = λ v o h e. b.more v o h (a.more v o h e);
  least = λ M c l. b.least M c (a.least M c l);
}

-- the end: no name is marked, so no pair breaks the rule
pub finish : {S : Setting} → Given S → {rows' : List ℕ} → Between S rows' → (names : List ℕ) → length names ≡ 4 → Clean (regrown S rows') names
    → inside names 0 (replicate 4 0) 0 ≡ true → Finished S rows'
finish {S} g {rows'} b names four clean e = record {
  size = b.size ∙ g.lists.many_rows;
  more = b.more;
  rule3 = rule-three (given-again g b.size) (λ p q hp hq rp.
      elim (decided (breaks_pair 3 (regrown S rows') p q)) [
        | inl k ↦ absurd (true≢false (sym (clean p q hp hq rp k) ∙ untouched names four e p q))
        | inr k ↦ k
      ]);
  least = b.least;
}

-- ---- each pass but the last sets a mark

unset-grows : (a : Array) (r s : Rows) → Contained a r s → unset a s ≤ unset a r
unfolding unset one
unset-grows a r s c = sum_mono a.names _ _ (λ v h. sum_mono row_bits _ _ (λ o l. fewer (r v o) (s v o) (c v h o l)))
  where
    fewer : (x y : Bool) → (x ≡ true → y ≡ true) → one (not y) ≤ one (not x)
    fewer true y f = rw (f refl) (omega arith)
    fewer false y f = one-le (not y)

abbrev pub weight : Array → List ℕ → List ℕ → ℕ
weight a rows names = unset a (marked rows) + one (not (inside names 0 (replicate 4 0) 0))

module _ {S : Setting} (g : Given S) {rows' names' : List ℕ} (a : Grew (RuleThree S) S.rows (replicate 4 0) rows' names') where
  contained : Contained (array_in S) (marked S.rows) (marked rows')
  contained v h o l = a.more v o l

  -- a mark is set in the row of a name of the array alone: rows with every other mark meet the rule
  named : (v o : ℕ) → o < 256 → marked S.rows v o ≡ false → marked rows' v o ≡ true → v < S.t.names
  named v o h off on =
      elim (or_split (ltb v S.t.names) (marked S.rows v o) (a.least free rule (λ x y l k. or_right (ltb x S.t.names) _ k) v o h on)) [
        | inl k ↦ ltb-true v S.t.names k
        | inr k ↦ absurd (true≢false (sym k ∙ off))
      ]
    where
      free : Rows
      free x y = ltb x S.t.names || marked S.rows x y

      rule : RuleThree S free
      rule i hi j hj p q ep eq l n hn o ho k = or_left _ _ (lt-ltb _ S.t.names ((known (array_in S) g.read.formed i p ep).args n))

  pass-less : inside names' 0 (replicate 4 0) 0 ≡ false → unset (array_in S) (marked rows') < unset (array_in S) (marked S.rows)
  pass-less e =
      let x = some-marked names' e in
      let y = a.earned x.0 (marked-none 4 0 x.0) x.2 in
      unset-less (array_in S) (marked S.rows) (marked rows') contained x.0 y.0 (named x.0 y.0 y.1 y.2 y.3) y.1 y.2 y.3

  -- marks to set, and one where a name is left
  pub pass-weight : (names : List ℕ) → inside names 0 (replicate 4 0) 0 ≡ false
      → weight (array_in S) rows' names' < weight (array_in S) S.rows names
  unfolding one
  pass-weight names e =
      elim (decided (inside names' 0 (replicate 4 0) 0)) [
        | inl k ↦ let l = unset-grows (array_in S) (marked S.rows) (marked rows') contained in rw (k, e) (omega (arith, l))
        | inr k ↦ let l = pass-less k in rw (k, e) (omega (arith, l))
      ]
