-- The senders of a set, one by one along its links: those at or above the next are passed.
use Prim.Native.Nat.{ℕ, ◌+◌, ◌≤◌}
use native.Mathlib.Omega.{arith}
use mathlib.Core.Path.{◌≡◌, refl, sym, ap, ◌∙◌}
use mathlib.Core.Logic.{inl, inr}
use mathlib.Core.Bool.{false}
use mathlib.Core.List.{List}
use lib.Dec.{eqb, ltb}
use lib.ListN.{get_or}
use borrow.Author.Tests.{ltb-true, ltb-false, eqb-true, eqb-false}
use Rattle.laws.proofs.Search.{decided}
use Rattle.records.specs.declared.Record.{Record}
use Rattle.records.specs.Record.{record_of}
use Rattle.pairs.specs.declared.Side.{Side}
use Rattle.pairs.specs.Pairs.{Setting, breaks_pair}
use Rattle.pairs.proofs.Search.{side_at}
use Rattle.senders.specs.Sets.{every_name, sends_by, Member, Linked}
use Rattle.filter.specs.Filter.{SetSound}

-- the next sender is of set g, and those of the set from there on break nothing
pub record Passed (rule : ℕ) (S : Setting) (p : Side) (g : ℕ) (next : ℕ) (sets : ℕ → ℕ) : Type 0 where
  pub of : (j : ℕ) → next ≡ j + 1 → Member S.f S.t every_name sets g j
  pub sound : (j : ℕ) → Member S.f S.t every_name sets g j → next ≤ j → breaks_pair rule S p (side_at S j) ≡ false

abbrev pub AtMember : ℕ → Setting → Side → ℕ → List ℕ → ℕ → ℕ → Type 0
AtMember rule S p g links end next =
    (end ≤ S.t.nodes) × ((sets : ℕ → ℕ) → Linked S.f S.t every_name sets links → Passed rule S p g next sets)

module _ (rule : ℕ) (S : Setting) (p : Side) (g : ℕ) (links : List ℕ) where
  pub members-begun : AtMember rule S p g links S.t.nodes (get_or links (1024 + g) 0)
  members-begun = (omega arith, λ sets l. record { of = l.last_of g; sound = λ j m h. absurd (omega (arith, l.last g j m, h)) })

  -- one sender more
  pub members-more : (end next j : ℕ) → next ≡ j + 1 → AtMember rule S p g links end next → j ≤ S.t.nodes → (r : Record) → r ≡ record_of S.f S.t j
      → breaks_pair rule S p record { number = j; node = r } ≡ false → AtMember rule S p g links j (get_or links j 0)
  members-more end next j up a fits r is e = (fits, λ sets l. one sets l (rw up at (a.1 sets l)))
    where
      one : (sets : ℕ → ℕ) → Linked S.f S.t every_name sets links → Passed rule S p g (j + 1) sets
          → Passed rule S p g (get_or links j 0) sets
      one sets l h =
          let here = h.of j refl in
          record {
            of = λ i q. (l.before_of g i j here q).0;
            sound = λ i m k.
                elim (decided (ltb j i)) [
                  | inl above ↦ h.sound i m (omega (arith, ltb-true j i above))
                  | inr below ↦
                      elim (decided (eqb i j)) [
                        | inl same ↦ rw (eqb-true i j same) (ap (λ x. breaks_pair rule S p record { number = j; node = x }) (sym is) ∙ e)
                        | inr other ↦ absurd (omega (arith, l.before g i j m here (omega (arith, ltb-false j i below, eqb-false i j other)), k))
                      ]
                ];
          }

  -- no sender is left
  pub members-done : (end : ℕ) → AtMember rule S p g links end 0 → (sets : ℕ → ℕ) → Linked S.f S.t every_name sets links
      → SetSound rule S sets p g
  members-done end a sets l q hq sends of =
      let h = a.1 sets l in
      ap (λ r. breaks_pair rule S p record { number = q.number; node = r }) hq.is
      ∙ h.sound q.number (hq.below, ap (λ r. sends_by every_name r) (sym hq.is) ∙ sends, of) (omega arith)
