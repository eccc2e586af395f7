-- How the lists of a family grow, and that what a set keeps of a sender stays kept.
use Prim.Native.Nat.{ℕ, ◌+◌, ◌/◌, ◌≤◌, ◌<◌}
use native.Mathlib.Nat.{le_refl, le_trans}
use native.Mathlib.Omega.{arith}
use mathlib.Core.Path.{◌≡◌, refl, sym, ap, ◌∙◌, subst}
use mathlib.Core.Logic.{inl, inr}
use mathlib.Core.Bool.{Bool, true, cond, true≢false}
use mathlib.Core.List.{List}
use lib.Dec.{eqb, ltb}
use lib.ListN.{length, set, length-set, length-replicate}
use borrow.Author.Tests.{eqb-true, eq-eqb, ltb-true, ltb-false}
use Rattle.std.proofs.Common.{IsTrue, ◌↔◌}
use Rattle.laws.specs.Search.{every, any}
use Rattle.laws.proofs.Search.{decided, and-join, or_left, or_right, every_true, any-true, true-any}
use Rattle.laws.proofs.Lists.{get_d_set, slice_index-zeros}
use Rattle.marks.specs.Marks.{marked, mark_if, inside, Joined}
use Rattle.marks.proofs.Laws.{marked-inside, inside-trans, join-keeps, marked-set}
use Rattle.model.specs.Memory.{is_out}
use Rattle.records.specs.declared.Record.{Record}
use Rattle.records.specs.Record.{node_of, record_of}
use Rattle.records.proofs.KindLaws.{sender-is}
use Rattle.arrays.proofs.Agents.{small-arity}
use Rattle.loads.specs.Loads.{entry_index, load_in}
use Rattle.pairs.specs.declared.Side.{Side}
use Rattle.pairs.specs.Pairs.{Setting, Given, Held}
use Rattle.pairs.proofs.Laws.{name-row, arg-row}
use Rattle.pairs.proofs.ByDifference.{need-there}
use Rattle.senders.specs.declared.TheConstants.{NO_SENDERS}
use Rattle.senders.specs.Sets.{every_name, sends_by, Family, Room, Vacant, Covers, Collected, NeedsGrow, RowsGrow, Grown, Askable}

-- ---- a test of some number below n

pub any-told : {b : Bool} (n : ℕ) (f : ℕ → Bool) → (IsTrue b ↔ ((j : ℕ) × (j < n) × (f j ≡ true))) → b ≡ any n f
any-told {b} n f h =
    elim (decided b) [
      | inl e ↦ let x = h.0 e in e ∙ sym (true-any n f x.0 x.1 x.2)
      | inr e ↦ elim (decided (any n f)) [ inl k ↦ absurd (true≢false (sym (h.1 (any-true n f k)) ∙ e)) | inr k ↦ e ∙ sym k ]
    ]

-- ---- needs

pub needs-same : (needs : List ℕ) → NeedsGrow needs needs
needs-same needs = record { size = refl; more = λ g k. le_refl _; half = λ h. h }

pub needs-trans : {a b c : List ℕ} → NeedsGrow a b → NeedsGrow b c → NeedsGrow a c
needs-trans p q = record {
  size = q.size ∙ p.size;
  more = λ g k. le_trans (p.more g k) (q.more g k);
  half = λ h. q.half (p.half h);
}

-- an entry that gets no smaller
module _ (needs : List ℕ) (g k y : ℕ) (there : entry_index g k < length needs) (more : load_in needs g k ≤ y) (small : y < 1073741824) where
  abbrev after : List ℕ
  after = set needs (entry_index g k) y

  entry-is : (h j : ℕ) → load_in after h j ≡ cond (eqb (entry_index h j) (entry_index g k)) y (load_in needs h j)
  entry-is h j = get_d_set needs (entry_index g k) y (entry_index h j) 0 there

  pub needs-set : NeedsGrow needs after
  needs-set = record {
    size = length-set needs _ _;
    more = λ h j. elim (decided (eqb (entry_index h j) (entry_index g k))) [
      | inl e ↦ rw (entry-is h j, e) (rw (eqb-true (entry_index h j) (entry_index g k) e) more)
      | inr e ↦ rw (entry-is h j, e) (le_refl _)
    ];
    half = λ low h j. elim (decided (eqb (entry_index h j) (entry_index g k))) [
      | inl e ↦ rw (entry-is h j, e) small
      | inr e ↦ rw (entry-is h j, e) (low h j)
    ];
  }

  pub entry_here : load_in after g k ≡ y
  entry_here = rw (entry-is g k, eq-eqb (entry_index g k) (entry_index g k) refl)

-- ---- rows

inside-self : (rows : List ℕ) (x : ℕ) → inside rows x rows x ≡ true
inside-self rows x = marked-inside rows x rows x (λ o h k. k)

pub rows_same : (rows : List ℕ) → RowsGrow rows rows
rows_same rows = record { size = refl; rows = inside-self rows }

pub rows-trans : {a b c : List ℕ} → RowsGrow a b → RowsGrow b c → RowsGrow a c
rows-trans {a} {b} {c} p q = record { size = q.size ∙ p.size; rows = λ x. inside-trans a x b x c x (p.rows x) (q.rows x) }

pub rows-joined : {before after : List ℕ} {u : ℕ} {t : List ℕ} {v : ℕ} → Joined before after u t v → RowsGrow before after
rows-joined {before} {after} {u} {t} {v} j = record { size = j.size; rows = join-keeps before after u t v j }

-- a row inside another stays inside it
pub rows-keep : (t : List ℕ) (v : ℕ) {a b : List ℕ} (x : ℕ) → inside t v a x ≡ true → RowsGrow a b → inside t v b x ≡ true
rows-keep t v {a} {b} x e p = inside-trans t v a x b x e (p.rows x)

-- ---- arities

module _ (row : List ℕ) (v : ℕ) (fits : v / 64 < length row) where
  pub mark-keeps : (o : ℕ) → marked row 0 o ≡ true → marked (mark_if row true v) 0 o ≡ true
  mark-keeps o e = marked-set row v o fits ∙ or_left _ _ e

  pub mark-adds : marked (mark_if row true v) 0 v ≡ true
  mark-adds = marked-set row v v fits ∙ or_right (marked row 0 v) _ (eq-eqb v v refl)

-- ---- a family

pub none-vacant : Vacant NO_SENDERS
none-vacant = record {
  room = record {
    needs = length-replicate {A = ℕ} 288 0;
    unions = length-replicate {A = ℕ} 432 0;
    arities = length-replicate {A = ℕ} 4 0;
    half = λ g k. rw (slice_index-zeros 288 (entry_index g k)) (omega arith);
  };
  links = refl;
}

pub grown-same : (F : Family) → Grown F F
grown-same F = record { needs = needs-same F.needs; unions = rows_same F.unions; size = refl; arities = λ o e. e }

pub room-grown : {F G : Family} → Room F → Grown F G → Room G
room-grown r p = record {
  needs = p.needs.size ∙ r.needs;
  unions = p.unions.size ∙ r.unions;
  arities = p.size ∙ r.arities;
  half = p.needs.half r.half;
}

pub covers-grown : {rule : ℕ} {S : Setting} {F G : Family} {g : ℕ} {q : Side} → Covers rule S F g q → Grown F G → Covers rule S G g q
covers-grown c p = record {
  arity = p.arities _ c.arity;
  channel = rows-keep _ _ _ c.channel p.unions;
  sent = λ e m h. rows-keep _ _ _ (c.sent e m h) p.unions;
  needs = λ e k h. le_trans (c.needs e k h) (p.needs.more _ k);
}

-- ---- each sender below a node

pub collected-none : {rule : ℕ} {S : Setting} {names : List ℕ} {F : Family} (sets : ℕ → ℕ) → Room F → Collected rule S names F sets 0
collected-none sets r = record { room = r; covers = λ q h k l. absurd (omega arith) }

-- one node more: where it is gathered, its set keeps it. The nodes before it are in the sets that they were in.
pub collected-more : {rule : ℕ} {S : Setting} {names : List ℕ} {F G : Family} {i : ℕ} (sets more : ℕ → ℕ) → Collected rule S names F sets i → Grown F G
    → ((x : ℕ) → x < i → more x ≡ sets x) → (r : Record) → r ≡ record_of S.f S.t i
    → (sends_by names r ≡ true → Covers rule S G (more i) (record { number = i; node = r })) → Collected rule S names G more (i + 1)
collected-more {rule} {S} {names} {F} {G} {i} sets more c p same r read here = record {
  room = room-grown c.room p;
  covers = λ q h k l. elim (decided (ltb q.number i)) [
    | inl e ↦
        let below = ltb-true q.number i e in
        rw (same q.number below) (covers-grown (c.covers q h k below) p)
    | inr e ↦ last q h k (let b = ltb-false q.number i e in omega arith)
  ];
}
  where
    last : (q : Side) → Held S q → sends_by names q.node ≡ true → q.number ≡ i → Covers rule S G (more q.number) q
    last q h k e =
        let f : q.node ≡ r = h.is ∙ ap (λ (n : ℕ). record_of S.f S.t n) e ∙ sym read in
        subst (λ (x : ℕ). Covers rule S G x q) (ap more (sym e))
        (subst (λ (x : Side). Covers rule S G (more i) x) (λ j. record { number = sym e j; node = sym f j })
        (here (ap (λ (x : Record). sends_by names x) (sym f) ∙ k)))

-- the lists have what is asked of a sender of the file
pub askable : {S : Setting} → Given S → {q : Side} → Held S q → is_out (node_of q.node) ≡ true → Askable S.n S.rows S.loads q
askable {S} g {q} h k =
    let a = (sender-is q.node k).0 in
    record {
      name = name-row g h a;
      sent = record { few = small-arity g.read h; args = λ m l. arg-row g h a m l };
      needs = record { few = g.lists.few; there = need-there g h k };
    }

-- ---- every name marked

all-marked : every 256 (marked every_name 0) ≡ true
unfolding every marked
all-marked = refl

pub marked-any : (v : ℕ) → v < 256 → marked every_name 0 v ≡ true
marked-any v h = every_true 256 (marked every_name 0) all-marked v h

-- every sender uses a marked name then
pub sends-any : {S : Setting} → Given S → {q : Side} → Held S q → is_out (node_of q.node) ≡ true → sends_by every_name q.node ≡ true
sends-any {S} g {q} h k =
    and-join k (or_left _ _ (marked-any _ (omega (arith, name-row g h (sender-is q.node k).0, g.lists.many_rows))))
