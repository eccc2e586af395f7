-- Sets of senders that need not be looked at, though they were gathered from rows that have grown since: a sender whose rows have grown uses a noted
-- name, and of any other the set still keeps what it sends.
use Prim.Native.Nat.{ℕ, ◌+◌, ◌<◌}
use native.Mathlib.Omega.{arith}
use mathlib.Core.Path.{◌≡◌, sym, ap, ◌∙◌, subst}
use mathlib.Core.Logic.{inl, inr}
use mathlib.Core.Bool.{Bool, true, false, not, true≢false, false≢true}
use mathlib.Core.List.{List}
use lib.ListN.{get_or}
use borrow.Author.Count.{below_more}
use borrow.Author.Tests.{not-true}
use Rattle.laws.specs.Search.{every}
use Rattle.laws.proofs.Search.{decided, and_split, or_split, every_true}
use Rattle.marks.specs.Marks.{marked, inside}
use Rattle.marks.proofs.Laws.{inside-marked, marked-inside}
use Rattle.model.specs.Mend.{Rows}
use Rattle.records.specs.declared.Record.{Record}
use Rattle.records.specs.Record.{node_of, record_of}
use Rattle.records.specs.Kinds.{is_receiver}
use Rattle.pairs.specs.declared.Side.{Side}
use Rattle.pairs.specs.Pairs.{Setting, Given, Held, figures_of, breaks_pair}
use Rattle.arrays.proofs.Agents.{small-arity}
use Rattle.pairs.proofs.Laws.{alive, agent-p, name-row, arg-row}
use Rattle.pairs.proofs.Search.{side_at}
use Rattle.senders.specs.declared.Sets.{Sets}
use Rattle.senders.specs.Sets.{family, sends_by, Covers, SentRows, Gathered}
use Rattle.filter.specs.Filter.{may_come, arg_inside, figures_pass}
use Rattle.filter.proofs.Laws.{far-set, whole_set}
use Rattle.mending.specs.Growing.{Grew, set_clear, touches, Noted, Stale, SetNoted, AllNoted, NodeNoted, Swept}
use Rattle.mending.proofs.Noting.{regrown, noted-grew, own-off, sent-off}

-- what was gathered from the rows of now
abbrev pub stale-now : {S : Setting} {names chosen : List ℕ} {s : Sets} → Gathered 3 S chosen (family s) s.links → Stale S names chosen s
stale-now {S} k = record {
  old = S.rows;
  since = λ v o h off on. absurd (true≢false (sym on ∙ off));
  gathered = k;
}

-- and of rows that have grown since
abbrev pub stale-grew : {C : Rows → Type 0} {S : Setting} {names chosen : List ℕ} {s : Sets} {rows' names' : List ℕ} → Stale S names chosen s
    → Grew C S.rows names rows' names' → Stale (regrown S rows') names' chosen s
stale-grew {S = S} k a = record {
  old = k.old;
  since = λ v o h off on.
      elim (decided (marked S.rows v o)) [ inl e ↦ a.keeps v (k.since v o h off e) | inr e ↦ a.notes v o h e on ];
  gathered = k.gathered;
}

module _ {S : Setting} (g : Given S) {p : Side} (hp : Held S p) (rp : is_receiver (node_of p.node) ≡ true) {names chosen : List ℕ} {s : Sets}
    (k : Stale S names chosen s) {q : Side} (hq : Held S q) (by : sends_by chosen q.node ≡ true) where
  abbrev own : ℕ
  own = k.gathered.sets q.number

  -- a row that is not noted is contained in what contained it
  kept : (v x : ℕ) → marked names 0 v ≡ false → inside k.old v s.unions x ≡ true → inside S.rows v s.unions x ≡ true
  kept v x off e =
      marked-inside S.rows v s.unions x (λ o h on.
      elim (decided (marked k.old v o)) [
        | inl was ↦ inside-marked k.old v s.unions x e o h was
        | inr was ↦ absurd (true≢false (sym (k.since v o h was on) ∙ off))
      ])

  covers-now : touches names p q ≡ false → Covers 3 S (family s) own q
  covers-now off =
      let c = k.gathered.collected.covers q hq by hq.below in
      record {
        arity = c.arity;
        channel = kept q.node.name own (own-off names p q off) c.channel;
        sent = λ e m h. kept (get_or q.node.args m 0) _ (sent-off names p q off m h) (c.sent e m h);
        needs = λ e. absurd (true≢false e);
      }

  unless : (touches names p q ≡ false → breaks_pair 3 S p q ≡ false) → Noted S names p q
  unless f e = elim (decided (touches names p q)) [ inl on ↦ on | inr off ↦ absurd (true≢false (sym e ∙ f off)) ]

  -- no sender of the set may come
  far-noted : may_come s.unions s.arities S.rows own p ≡ false → Noted S names p q
  far-noted e = unless (λ off. far-set 3 g hp rp (family s) own q hq (and_split _ _ by).0 (covers-now off) e)

  -- all that the set sends is contained
  whole-noted : figures_pass 3 S.n s.needs s.unions S.rows S.loads own p ≡ true → Noted S names p q
  whole-noted e = unless (λ off. whole_set 3 g hp rp (family s) own q hq (and_split _ _ by).0 (covers-now off) e)

  -- either of the two
  pub clear-noted : set_clear s.unions s.arities S.rows p own ≡ true → Noted S names p q
  clear-noted e =
      let inside = every p.node.arity (arg_inside s.unions S.rows own p.node.args) in
      elim (or_split (not (may_come s.unions s.arities S.rows own p)) inside e) [
        | inl k ↦ far-noted (not-true _ k)
        | inr k ↦ whole-noted k
      ]

-- a sender that was looked at by its number
pub noted_of : (S : Setting) (names : List ℕ) (p q : Side) → Held S q → Noted S names p (side_at S q.number) → Noted S names p q
noted_of S names p q h x = subst (λ (r : Record). Noted S names p record { number = q.number; node = r }) (sym h.is) x

-- ---- set after set

module _ {S : Setting} (g : Given S) {p : Side} (hp : Held S p) (rp : is_receiver (node_of p.node) ≡ true) (names chosen : List ℕ)
    (sets : ℕ → ℕ) where
  pub sets_more : {C : Rows → Type 0} {rows' names' : List ℕ} (n : ℕ) → ((x : ℕ) → x < n → SetNoted S names chosen sets p x)
      → Grew C S.rows names rows' names' → SetNoted (regrown S rows') names' chosen sets p n
      → (x : ℕ) → x < n + 1 → SetNoted (regrown S rows') names' chosen sets p x
  sets_more {C} {rows'} {names'} n before a here =
      below_more (λ x. SetNoted (regrown S rows') names' chosen sets p x) n (λ x l q hq by of. noted-grew g hp rp hq a (before x l q hq by of)) here

-- ---- node after node

-- a receiver without parameters asks for nothing
pub idle-noted : (S : Setting) (names : List ℕ) (p q : Side) → is_receiver (node_of p.node) ≡ true → figures_of 3 S.n p.node ≡ 0 → Noted S names p q
unfolding every
idle-noted S names p q rp e k =
    let none : p.node.arity ≡ 0 = rw rp at e in
    let b = (and_split (alive S p q) _ k).1 in
    absurd (false≢true (rw none at b))

-- what holds of the record that was read
pub node-noted : (S : Setting) (names chosen reach : List ℕ) (on : Bool) (i : ℕ) (r : Record) → r ≡ record_of S.f S.t i
    → (is_receiver (node_of r) ≡ true → marked reach 0 r.name ≡ on → AllNoted S names chosen record { number = i; node = r })
    → NodeNoted S names chosen reach on i
node-noted S names chosen reach on i r is f p hp e rp there =
    let same : r ≡ p.node = is ∙ ap (λ (n : ℕ). record_of S.f S.t n) (sym e) ∙ sym hp.is in
    subst (λ (x : Side). AllNoted S names chosen x) (λ z. record { number = sym e z; node = same z })
    (f (ap (λ (x : Record). is_receiver (node_of x)) same ∙ rp) (ap (λ (x : Record). marked reach 0 x.name) same ∙ there))

-- what is asked of a receiver's record
pub channel-there : {S : Setting} → Given S → {p : Side} → Held S p → is_receiver (node_of p.node) ≡ true
    → (p.node.name < 256) × SentRows S.rows p.node
channel-there g hp rp =
    let agent = agent-p g hp rp hp in
    let x = name-row g hp agent in
    (omega (arith, x, g.lists.many_rows), record { few = small-arity g.read hp; args = arg-row g hp agent })

-- a receiver that is out of reach, or whose large sets are clear
pub clear-node : {S : Setting} → Given S → {p : Side} → Held S p → (i : ℕ) → p.number ≡ i → (names chosen reach : List ℕ) (on : Bool) {s : Sets}
    → Stale S names chosen s → (marked reach 0 p.node.name ≡ on → every 12 (set_clear s.unions s.arities S.rows p) ≡ true)
    → NodeNoted S names chosen reach on i
clear-node {S} g {p} hp i e names chosen reach on k clear =
    subst (λ (j : ℕ). NodeNoted S names chosen reach on j) e
    (node-noted S names chosen reach on p.number p.node hp.is (λ rp there q hq by.
    clear-noted g hp rp k hq by (every_true 12 _ (clear there) (k.gathered.sets q.number) (k.gathered.few q.number))))

-- one without figures
pub idle-node : (S : Setting) {p : Side} → Held S p → (names chosen reach : List ℕ) (on : Bool) → figures_of 3 S.n p.node ≡ 0
    → NodeNoted S names chosen reach on p.number
idle-node S {p} hp names chosen reach on e =
    node-noted S names chosen reach on p.number p.node hp.is (λ rp there q hq by. idle-noted S names p q rp e)

-- rows that grow
pub swept-grew : {S : Setting} → Given S → {C : Rows → Type 0} {rows' names' : List ℕ} (names chosen reach : List ℕ) (on : Bool) (n : ℕ)
    → Swept S names chosen reach on n → Grew C S.rows names rows' names' → Swept (regrown S rows') names' chosen reach on n
swept-grew g names chosen reach on n before a x l p hp e rp there q hq by = noted-grew g hp rp hq a (before x l p hp e rp there q hq by)

pub swept-more : {S : Setting} → Given S → {C : Rows → Type 0} {rows' names' : List ℕ} (names chosen reach : List ℕ) (on : Bool) (n : ℕ)
    → Swept S names chosen reach on n → Grew C S.rows names rows' names' → NodeNoted (regrown S rows') names' chosen reach on n
    → Swept (regrown S rows') names' chosen reach on (n + 1)
swept-more {S} g {C} {rows'} {names'} names chosen reach on n before a here =
    below_more (λ x. NodeNoted (regrown S rows') names' chosen reach on x) n (swept-grew g names chosen reach on n before a) here
