-- The senders of a set, one by one along its links: of those at or above the next, what is to be seen was seen.
use Prim.Native.Nat.{ℕ, ◌+◌, ◌-◌, ◌≤◌, ◌<◌}
use native.Mathlib.Omega.{arith}
use mathlib.Core.Path.{◌≡◌, refl, sym, subst}
use mathlib.Core.Logic.{inl, inr}
use mathlib.Core.Bool.{true}
use mathlib.Core.List.{List}
use lib.Dec.{eqb, ltb}
use lib.ListN.{get_or}
use borrow.Author.Tests.{ltb-true, ltb-false, eqb-true, eqb-false}
use Rattle.laws.proofs.Search.{decided, and_split}
use Rattle.model.specs.Memory.{is_out}
use Rattle.records.specs.declared.Record.{Record}
use Rattle.records.specs.Record.{node_of, record_of}
use Rattle.pairs.specs.declared.Side.{Side}
use Rattle.pairs.specs.Pairs.{Setting, Held}
use Rattle.pairs.proofs.Search.{side_at}
use Rattle.senders.specs.Sets.{Member, Linked}
use Rattle.mending.specs.Growing.{Sends}

-- a node of the file
pub held_at : (S : Setting) (j : ℕ) → j < S.t.nodes → Held S (side_at S j)
held_at S j h = record { below = h; is = refl }

-- what holds of a sender, by its number
pub sends-at : (S : Setting) (p : Side) (sent : List ℕ) (j : ℕ) (r : Record) → r ≡ record_of S.f S.t j → Sends S p sent record { number = j; node = r }
    → Sends S p sent (side_at S j)
sends-at S p sent j r e h = subst (λ (x : Record). Sends S p sent record { number = j; node = x }) e h

-- the next sender is of set g, and those of the set from there on were looked at
pub record PassedTo (S : Setting) (g : ℕ) (P : ℕ → Type 0) (chosen : List ℕ) (sets : ℕ → ℕ) (next : ℕ) : Type 0 where
  pub of : (j : ℕ) → next ≡ j + 1 → Member S.f S.t chosen sets g j
  pub seen : (j : ℕ) → Member S.f S.t chosen sets g j → next ≤ j → P j

-- whichever sets the links stand for
abbrev pub AtLink : Setting → ℕ → List ℕ → (ℕ → Type 0) → ℕ → Type 0
AtLink S g links P next = (chosen : List ℕ) (sets : ℕ → ℕ) → Linked S.f S.t chosen sets links → PassedTo S g P chosen sets next

-- some sets
abbrev pub SomeSets : Setting → List ℕ → Type 0
SomeSets S links = (chosen : List ℕ) × (sets : ℕ → ℕ) × Linked S.f S.t chosen sets links

module _ (S : Setting) (g : ℕ) (links : List ℕ) (P : ℕ → Type 0) where
  pub links-begun : AtLink S g links P (get_or links (1024 + g) 0)
  links-begun chosen sets l = record { of = l.last_of g; seen = λ j m h. absurd (omega (arith, l.last g j m, h)) }

  -- the next sender is a node, and the one before it lies below
  module _ (j : ℕ) (a : AtLink S g links P (j + 1)) (some : SomeSets S links) where
    pub link-node : j < S.t.nodes
    link-node = ((a some.0 some.1 some.2).of j refl).0

    -- that sends
    pub link-sends : is_out (node_of (record_of S.f S.t j)) ≡ true
    link-sends = (and_split _ _ ((a some.0 some.1 some.2).of j refl).1).0

    pub link-down : get_or links j 0 ≤ j
    link-down =
        let l = some.2 in
        let m = (a some.0 some.1 l).of j refl in
        elim (decided (ltb j (get_or links j 0))) [
          | inr e ↦ omega (arith, ltb-false j (get_or links j 0) e)
          | inl e ↦
              let h = ltb-true j (get_or links j 0) e in
              absurd (omega (arith, (l.before_of g (get_or links j 0 - 1) j m (omega (arith, h))).1, h))
        ]

  -- one sender more
  pub links-more : (Q : ℕ → Type 0) → ((i : ℕ) → P i → Q i) → (j : ℕ) → AtLink S g links P (j + 1) → Q j → AtLink S g links Q (get_or links j 0)
  links-more Q still j a here chosen sets l =
      let h = a chosen sets l in
      let m = h.of j refl in
      record {
        of = λ i q. (l.before_of g i j m q).0;
        seen = λ i k low.
            elim (decided (ltb j i)) [
              | inl above ↦ still i (h.seen i k (omega (arith, ltb-true j i above)))
              | inr below ↦
                  elim (decided (eqb i j)) [
                    | inl same ↦ subst Q (sym (eqb-true i j same)) here
                    | inr other ↦ absurd (omega (arith, l.before g i j k m (omega (arith, ltb-false j i below, eqb-false i j other)), low))
                  ]
            ];
      }

  -- no sender is left
  pub links-done : AtLink S g links P 0 → (chosen : List ℕ) (sets : ℕ → ℕ) → Linked S.f S.t chosen sets links → (j : ℕ)
      → Member S.f S.t chosen sets g j → P j
  links-done a chosen sets l j m = (a chosen sets l).seen j m (omega arith)
