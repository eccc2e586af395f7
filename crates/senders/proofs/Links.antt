-- Links of the senders below a node: each law is one node more.
use Prim.Native.Nat.{ℕ, ◌+◌, ◌≤◌, ◌<◌}
use native.Mathlib.Nat.{eq-or-lt_of_le}
use native.Mathlib.Omega.{arith}
use mathlib.Core.Path.{◌≡◌, refl, sym, ap, ◌∙◌, subst}
use mathlib.Core.Logic.{◌⊎◌, inl, inr, ◌≢◌}
use mathlib.Core.Bool.{Bool, true, false, true≢false}
use mathlib.Core.List.{List}
use lib.Dec.{eqb}
use lib.ListN.{length, get_or, set, replicate, length-set, length-replicate}
use lib.Seq.{get_or-set_same, get_or-set_other}
use borrow.Author.Tests.{eqb-true, eqb-false}
use Rattle.laws.proofs.Search.{decided}
use Rattle.laws.proofs.Lists.{slice_index-zeros}
use Rattle.records.specs.declared.Trailer.{Trailer}
use Rattle.records.specs.Record.{record_of}
use Rattle.senders.specs.Sets.{sends_by, Member, link, Linked}

module _ (f : List ℕ) (t : Trailer) (names : List ℕ) (sets : ℕ → ℕ) where
  abbrev Of : ℕ → ℕ → Type 0
  Of g q = Member f t names sets g q

  -- the senders below node n are linked
  pub record LinkedTo (links : List ℕ) (n : ℕ) : Type 0 where
    pub size : length links ≡ 1036
    pub last : (g q : ℕ) → Of g q → q < n → q < get_or links (1024 + g) 0
    pub last_of : (g q : ℕ) → get_or links (1024 + g) 0 ≡ q + 1 → Of g q × (q < n)
    pub before : (g p q : ℕ) → Of g p → Of g q → q < n → p < q → p < get_or links q 0
    pub before_of : (g p q : ℕ) → Of g q → q < n → get_or links q 0 ≡ p + 1 → Of g p × (p < q)

  pub linked-none : LinkedTo (replicate 1036 0) 0
  linked-none = record {
    size = length-replicate {A = ℕ} 1036 0;
    last = λ g q h l. absurd (omega arith);
    last_of = λ g q e. absurd (omega (arith, slice_index-zeros 1036 (1024 + g), e));
    before = λ g p q h k l. absurd (omega arith);
    before_of = λ g p q h l. absurd (omega arith);
  }

  pub linked-all : (links : List ℕ) → LinkedTo links t.nodes → Linked f t names sets links
  linked-all links l = record {
    size = l.size;
    last = λ g q h. l.last g q h h.0;
    last_of = λ g q e. (l.last_of g q e).0;
    before = λ g p q h k. l.before g p q h k k.0;
    before_of = λ g p q h. l.before_of g p q h h.0;
  }

  module _ (links : List ℕ) (q : ℕ) (room : q < 1024) (here : q < t.nodes) (l : LinkedTo links q) where
    abbrev own : ℕ
    own = sets q

    abbrev sends : Bool
    sends = sends_by names (record_of f t q)

    -- a node below the next one is this one or lies before it
    split : (x : ℕ) → x < q + 1 → (x ≡ q) ⊎ (x < q)
    split x b = let e : x ≤ q = omega arith in eq-or-lt_of_le e

    -- a node that is not gathered is of no set
    pub linked-skip : sends ≡ false → LinkedTo links (q + 1)
    linked-skip off = record {
      size = l.size;
      last = λ g x h b. l.last g x h (less g x h b);
      last_of = λ g x e. let a = l.last_of g x e in (a.0, omega (arith, a.1));
      before = λ g p x h k b. l.before g p x h k (less g x k b);
      before_of = λ g p x h b. l.before_of g p x h (less g x h b);
    }
      where
        less : (g x : ℕ) → Of g x → x < q + 1 → x < q
        less g x h b = elim (split x b) [
          | inl e ↦ absurd (true≢false (sym h.1 ∙ ap (λ (n : ℕ). sends_by names (record_of f t n)) e ∙ off))
          | inr e ↦ e
        ]

    module _ (on : sends ≡ true) (few : own < 12) where
      abbrev lead : ℕ
      lead = get_or links (1024 + own) 0

      abbrev half : List ℕ
      half = set links q lead

      abbrev more : List ℕ
      more = set half (1024 + own) (q + 1)

      room-is : length half ≡ 1036
      room-is = length-set links q lead ∙ l.size

      -- the entries written, and the others
      at_set : get_or more (1024 + own) 0 ≡ q + 1
      at_set = get_or-set_same half (1024 + own) (q + 1) 0 (omega (arith, room-is))

      at-node : get_or more q 0 ≡ lead
      at-node = get_or-set_other half (1024 + own) q (q + 1) 0 (λ e. absurd (omega arith)) ∙ get_or-set_same links q lead 0 (omega (arith, l.size))

      elsewhere : (k : ℕ) → k ≢ q → k ≢ 1024 + own → get_or more k 0 ≡ get_or links k 0
      elsewhere k a b = get_or-set_other half (1024 + own) k (q + 1) 0 b ∙ get_or-set_other links q k lead 0 a

      apart : (g : ℕ) → g ≢ own → get_or more (1024 + g) 0 ≡ get_or links (1024 + g) 0
      apart g a = elsewhere (1024 + g) (λ e. absurd (omega arith)) (λ e. a (omega arith))

      earlier : (x : ℕ) → x < q → get_or more x 0 ≡ get_or links x 0
      earlier x b = elsewhere x (λ e. absurd (omega arith)) (λ e. absurd (omega arith))

      member : Of own q
      member = (here, on, refl)

      of-own : (g x : ℕ) → Of g x → x ≡ q → g ≡ own
      of-own g x h e = sym h.2 ∙ ap sets e

      same_set : (g : ℕ) → (g ≡ own) ⊎ (g ≢ own)
      same_set g = elim (decided (eqb g own)) [ inl e ↦ inl (eqb-true g own e) | inr e ↦ inr (eqb-false g own e) ]

      linked-last : (g x : ℕ) → Of g x → x < q + 1 → x < get_or more (1024 + g) 0
      linked-last g x h b = elim (same_set g) [
        | inl e ↦ rw (e, at_set) b
        | inr e ↦ rw (apart g e) (elim (split x b) [ inl s ↦ absurd (e (of-own g x h s)) | inr s ↦ l.last g x h s ])
      ]

      linked-last_of : (g x : ℕ) → get_or more (1024 + g) 0 ≡ x + 1 → Of g x × (x < q + 1)
      linked-last_of g x k = elim (same_set g) [
        | inl e ↦
            let s : q ≡ x = let m = sym at_set ∙ ap (λ (n : ℕ). get_or more (1024 + n) 0) (sym e) ∙ k in omega (arith, m) in
            (subst (λ (n : ℕ). Of g n) s (subst (λ (n : ℕ). Of n q) (sym e) member), omega arith)
        | inr e ↦ let a = l.last_of g x (sym (apart g e) ∙ k) in (a.0, omega (arith, a.1))
      ]

      linked-before : (g p x : ℕ) → Of g p → Of g x → x < q + 1 → p < x → p < get_or more x 0
      linked-before g p x h k b less = elim (split x b) [
        | inr s ↦ rw (earlier x s) (l.before g p x h k s less)
        | inl s ↦ rw (s, at-node) (rw (of-own g x k s) at (l.last g p h (omega arith)))
      ]

      linked-before_of : (g p x : ℕ) → Of g x → x < q + 1 → get_or more x 0 ≡ p + 1 → Of g p × (p < x)
      linked-before_of g p x h b k = elim (split x b) [
        | inr s ↦ l.before_of g p x h s (sym (earlier x s) ∙ k)
        | inl s ↦
            let e : lead ≡ p + 1 = sym at-node ∙ ap (λ (n : ℕ). get_or more n 0) (sym s) ∙ k in
            let a = l.last_of own p e in
            (subst (λ (n : ℕ). Of n p) (sym (of-own g x h s)) a.0, omega (arith, a.1))
      ]

      pub linked-more : LinkedTo (link links own q) (q + 1)
      linked-more = record {
        size = length-set half (1024 + own) (q + 1) ∙ room-is;
        last = linked-last;
        last_of = linked-last_of;
        before = linked-before;
        before_of = linked-before_of;
      }

-- the sets of the nodes below are what counts
pub linked-same : (f : List ℕ) (t : Trailer) (names : List ℕ) (sets more : ℕ → ℕ) (links : List ℕ) (n : ℕ) → ((x : ℕ) → x < n → more x ≡ sets x)
    → LinkedTo f t names sets links n → LinkedTo f t names more links n
linked-same f t names sets more links n same l = record {
  size = l.size;
  last = λ g q h b. l.last g q (there g q b h) b;
  last_of = λ g q e. let a = l.last_of g q e in (back g q a.1 a.0, a.1);
  before = λ g p q h k b less. l.before g p q (there g p (omega (arith, less, b)) h) (there g q b k) b less;
  before_of = λ g p q h b e. let a = l.before_of g p q (there g q b h) b e in (back g p (omega (arith, a.1, b)) a.0, a.1);
}
  where
    there : (g q : ℕ) → q < n → Member f t names more g q → Member f t names sets g q
    there g q b h = (h.0, h.1, sym (same q b) ∙ h.2)

    back : (g q : ℕ) → q < n → Member f t names sets g q → Member f t names more g q
    back g q b h = (h.0, h.1, same q b ∙ h.2)
