-- Rows that grow: in no step, in two steps, by one row, by those of all parameters.
use Prim.Native.Nat.{ℕ, ◌+◌, ◌<◌}
use mathlib.Core.Path.{◌≡◌, refl, sym, ap, ◌∙◌, subst}
use mathlib.Core.Logic.{◌⊎◌, inl, inr}
use mathlib.Core.Bool.{Bool, true, false, not, ◌&&◌, ◌||◌, true≢false}
use mathlib.Core.Bool as bools
use mathlib.Core.List.{List}
use lib.Dec.{eqb, ltb}
use lib.ListN.{length, get_or}
use borrow.Author.Count.{below_more}
use borrow.Author.Tests.{eqb-true, ltb-true, not-true, not-false}
use Rattle.laws.proofs.Search.{decided, and_split, and-join, or_split, or_left, or_right, or-false, every-false}
use Rattle.marks.specs.Marks.{marked, mark_if, inside}
use Rattle.marks.proofs.Laws.{marked_more, mark_if-length, inside-marked, join-adds}
use Rattle.model.specs.Mend.{Rows}
use Rattle.records.specs.declared.Record.{Record}
use Rattle.mending.specs.Growing.{Below, Grew, Added, SentIf, sent_at, Asks, Takes}

-- ---- no step, two steps, a weaker property

pub grew_same : (C : Rows → Type 0) (rows names : List ℕ) → Grew C rows names rows names
grew_same C rows names = record {
  size = refl;
  marks = refl;
  more = λ v o h e. e;
  keeps = λ v e. e;
  notes = λ v o h off on. absurd (true≢false (sym on ∙ off));
  earned = λ v off on. absurd (true≢false (sym on ∙ off));
  least = λ M c b. b;
}

module _ {C : Rows → Type 0} {rows names rows₁ names₁ : List ℕ} (a : Grew C rows names rows₁ names₁) where
  -- a mark that is not there later was not there before
  was-off : (v o : ℕ) → o < 256 → marked rows₁ v o ≡ false → marked rows v o ≡ false
  was-off v o h off =
      elim (decided (marked rows v o)) [ inl e ↦ absurd (true≢false (sym (a.more v o h e) ∙ off)) | inr e ↦ e ]

  -- a row whose name is not noted stays as it was
  pub unnoted : (v : ℕ) → marked names₁ 0 v ≡ false → (o : ℕ) → o < 256 → marked rows₁ v o ≡ marked rows v o
  unnoted v off o h =
      elim (decided (marked rows v o)) [
        | inl e ↦ a.more v o h e ∙ sym e
        | inr e ↦
            elim (decided (marked rows₁ v o)) [
              | inl on ↦ absurd (true≢false (sym (a.notes v o h e on) ∙ off))
              | inr none ↦ none ∙ sym e
            ]
      ]

  pub grew_trans : {rows₂ names₂ : List ℕ} → Grew C rows₁ names₁ rows₂ names₂ → Grew C rows names rows₂ names₂
  grew_trans {rows₂} {names₂} b = record {
    size = b.size ∙ a.size;
    marks = b.marks ∙ a.marks;
    more = λ v o h e. b.more v o h (a.more v o h e);
    keeps = λ v e. b.keeps v (a.keeps v e);
    notes = λ v o h off on.
        elim (decided (marked rows₁ v o)) [ inl e ↦ b.keeps v (a.notes v o h off e) | inr e ↦ b.notes v o h e on ];
    earned = λ v off on.
        elim (decided (marked names₁ 0 v)) [
          | inl e ↦ let x = a.earned v off e in (x.0, x.1, x.2, b.more v x.0 x.1 x.3)
          | inr e ↦ let x = b.earned v e on in (x.0, x.1, was-off v x.0 x.1 x.2, x.3)
        ];
    least = λ M c l. b.least M c (a.least M c l);
  }

  -- where rows with property D that contain these have property C
  pub grew_by : (D : Rows → Type 0) → ((M : Rows) → D M → Below rows M → C M) → Grew D rows names rows₁ names₁
  grew_by D f = record {
    size = a.size;
    marks = a.marks;
    more = a.more;
    keeps = a.keeps;
    notes = a.notes;
    earned = a.earned;
    least = λ M d l. a.least M (f M d l) l;
  }

-- ---- one row

-- what a row lacks of another list's
lacks : (from : List ℕ) (v : ℕ) (rows : List ℕ) (u : ℕ) → inside from v rows u ≡ false
    → (o : ℕ) × (o < 256) × (marked from v o ≡ true) × (marked rows u o ≡ false)
unfolding inside
lacks from v rows u e =
    let x = every-false 256 _ e in
    let y = or-false _ _ x.2 in
    (x.0, x.1, not-false _ y.0, y.1)

not-inside : (from : List ℕ) (v : ℕ) (rows : List ℕ) (u o : ℕ) → o < 256 → marked from v o ≡ true → marked rows u o ≡ false → inside from v rows u ≡ false
not-inside from v rows u o h on off =
    elim (decided (inside from v rows u)) [ inl e ↦ absurd (true≢false (sym (inside-marked from v rows u e o h on) ∙ off)) | inr e ↦ e ]

-- ---- what is added

module _ (rows names : List ℕ) (u : ℕ) (from : List ℕ) (v : ℕ) where
  pub added_none : inside from v rows u ≡ true → Added rows names u from v rows names
  unfolding mark_if
  added_none e = record {
    joined = record { rows = λ x o h. same x o h (decided (eqb x u && marked from v o)); size = refl };
    noted = rw e;
  }
    where
      same : (x o : ℕ) → o < 256 → (eqb x u && marked from v o ≡ true) ⊎ (eqb x u && marked from v o ≡ false)
          → marked rows x o ≡ marked rows x o || (eqb x u && marked from v o)
      same x o h (inl k) =
          let s = and_split (eqb x u) _ k in
          let on : marked rows x o ≡ true = subst (λ (y : ℕ). marked rows y o ≡ true) (sym (eqb-true x u s.0)) (inside-marked from v rows u e o h s.1) in
          rw on
      same x o h (inr k) = rw k (sym (bools.or-false (marked rows x o)))

module _ {rows names : List ℕ} {u : ℕ} {from : List ℕ} {v : ℕ} {rows' names' : List ℕ} (a : Added rows names u from v rows' names')
    (four : length names ≡ 4) (small : u < 256) where
  -- the names that are noted
  names-are : (x : ℕ) → marked names' 0 x ≡ marked names 0 x || (not (inside from v rows u) && eqb x u)
  names-are x = ap (λ (l : List ℕ). marked l 0 x) a.noted ∙ marked_more names (not (inside from v rows u)) u x four small

  grew-added : Grew (Asks u from v) rows names rows' names'
  grew-added = record {
    size = a.joined.size;
    marks = ap length a.noted ∙ mark_if-length names _ u;
    more = λ x o h e. a.joined.rows x o h ∙ or_left _ _ e;
    keeps = λ x e. names-are x ∙ or_left _ _ e;
    notes = λ x o h off on.
        let k = new x o h off on in
        let e = eqb-true x u k.0 in
        names-are x ∙ or_right (marked names 0 x) _
        (and-join (ap not (not-inside from v rows u o h k.1 (subst (λ (y : ℕ). marked rows y o ≡ false) e off))) k.0);
    earned = λ x off on.
        let k = earns x off on in
        let l = lacks from v rows u (not-true _ k.0) in
        let e = eqb-true x u k.1 in
        let off' : marked rows x l.0 ≡ false = subst (λ (y : ℕ). marked rows y l.0 ≡ false) (sym e) l.3 in
        (l.0, l.1, off', a.joined.rows x l.0 l.1 ∙ or_right (marked rows x l.0) _ (and-join k.1 l.2));
    least = λ M asks below x o h on.
        elim (or_split (marked rows x o) (eqb x u && marked from v o) (sym (a.joined.rows x o h) ∙ on)) [
          | inl e ↦ below x o h e
          | inr e ↦
              let k = and_split (eqb x u) _ e in
              subst (λ (y : ℕ). M y o ≡ true) (sym (eqb-true x u k.0)) (asks o h k.1)
        ];
  }
    where
      new : (x o : ℕ) → o < 256 → marked rows x o ≡ false → marked rows' x o ≡ true → (eqb x u ≡ true) × (marked from v o ≡ true)
      new x o h off on =
          elim (or_split (marked rows x o) (eqb x u && marked from v o) (sym (a.joined.rows x o h) ∙ on)) [
            | inl e ↦ absurd (true≢false (sym e ∙ off))
            | inr e ↦ and_split _ _ e
          ]

      earns : (x : ℕ) → marked names 0 x ≡ false → marked names' 0 x ≡ true → (not (inside from v rows u) ≡ true) × (eqb x u ≡ true)
      earns x off on =
          elim (or_split (marked names 0 x) (not (inside from v rows u) && eqb x u) (sym (names-are x) ∙ on)) [
            | inl e ↦ absurd (true≢false (sym e ∙ off))
            | inr e ↦ and_split _ _ e
          ]

-- ---- what is sent

-- where all that a record sends is there, it may as well be joined again
pub sent-there : (on : Bool) (rows : List ℕ) (r : Record) (sent : List ℕ) → ((m : ℕ) → m < r.arity → sent_at rows r sent m ≡ true)
    → SentIf on rows r sent sent
sent-there on rows r sent there = record { size = refl; is = λ m o h. go m o h (decided (marked sent m o)) }
  where
    go : (m o : ℕ) → o < 256 → (marked sent m o ≡ true) ⊎ (marked sent m o ≡ false)
        → marked sent m o ≡ marked sent m o || (on && (ltb m r.arity && marked rows (get_or r.args m 0) o))
    go m o h (inl e) = rw e
    go m o h (inr e) =
        elim (decided (on && (ltb m r.arity && marked rows (get_or r.args m 0) o))) [
          | inr k ↦ rw (e, k)
          | inl k ↦
              let x = and_split (ltb m r.arity) _ (and_split on _ k).1 in
              absurd (true≢false (sym (inside-marked rows _ sent m (there m (ltb-true m r.arity x.0)) o h x.1) ∙ e))
        ]

-- ---- parameter after parameter
module _ (count : ℕ) (params sent rows names : List ℕ) where
  -- the rows of the first n parameters contain what is sent
  abbrev pub TakenTo : ℕ → List ℕ → List ℕ → Type 0
  TakenTo n rows' names' = Grew (Takes count params sent) rows names rows' names' × Takes n params sent (marked rows')

  pub taken_more : (n : ℕ) {rows₁ names₁ rows₂ names₂ : List ℕ} → TakenTo n rows₁ names₁ → n < count
      → Added rows₁ names₁ (get_or params n 0) sent n rows₂ names₂ → length names₁ ≡ 4 → get_or params n 0 < 256 → TakenTo (n + 1) rows₂ names₂
  taken_more n {rows₁} {names₁} {rows₂} {names₂} h few a four small =
      let g = grew_by (grew-added a four small) (Takes count params sent) (λ M d l. d n few) in (
        grew_trans h.0 g,
        below_more (λ m. Asks (get_or params m 0) sent m (marked rows₂)) n (λ m l o k on. g.more _ o k (h.1 m l o k on))
            (λ o k on. inside-marked sent n rows₂ _ (join-adds _ _ _ _ _ a.joined) o k on),
      )
