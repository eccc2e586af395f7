-- The senders below a node, in sets: one node more is passed over, or put into the set that is chosen for it.
use Prim.Native.Nat.{ℕ, ◌+◌, ◌<◌}
use native.Mathlib.Omega.{arith}
use mathlib.Core.Path.{◌≡◌, refl, sym, ap, ◌∙◌, subst}
use mathlib.Core.Logic.{inl, inr}
use mathlib.Core.Bool.{true, false, cond, true≢false}
use mathlib.Core.List.{List}
use lib.Dec.{eqb}
use lib.ListN.{replicate}
use borrow.Author.Tests.{eq-eqb, ne_eqb}
use Rattle.laws.proofs.Search.{decided}
use Rattle.records.specs.declared.Record.{Record}
use Rattle.records.specs.Record.{record_of}
use Rattle.pairs.specs.declared.Side.{Side}
use Rattle.pairs.specs.Pairs.{Setting, setting}
use Rattle.senders.specs.Sets.{sends_by, Family, Room, Covers, Collected, Grown, link, Gathered}
use Rattle.senders.proofs.Laws.{grown-same, collected-none, collected-more}
use Rattle.senders.proofs.Links.{LinkedTo, linked-none, linked-skip, linked-more, linked-same, linked-all}

module _ (rule : ℕ) (S : Setting) (names : List ℕ) where
  pub record GatheredTo (F : Family) (links : List ℕ) (i : ℕ) : Type 0 where
    pub sets : ℕ → ℕ
    pub few : (q : ℕ) → sets q < 12
    pub collected : Collected rule S names F sets i
    pub linked : LinkedTo S.f S.t names sets links i

  pub gathered_none : (F : Family) → Room F → GatheredTo F (replicate 1036 0) 0
  gathered_none F room = record {
    sets = λ q. 0;
    few = λ q. omega arith;
    collected = collected-none (λ q. 0) room;
    linked = linked-none S.f S.t names (λ q. 0);
  }

  pub gathered-all : {F : Family} {links : List ℕ} → GatheredTo F links S.t.nodes → Gathered rule S names F links
  gathered-all {F} {links} h = record {
    sets = h.sets;
    few = h.few;
    collected = h.collected;
    linked = linked-all S.f S.t names h.sets links h.linked;
  }

  module _ {F : Family} {links : List ℕ} (i : ℕ) (h : GatheredTo F links i) (r : Record) (read : r ≡ record_of S.f S.t i) (here : i < S.t.nodes)
      (fits : i < 1024) where
    pub gathered-skip : sends_by names r ≡ false → GatheredTo F links (i + 1)
    gathered-skip off = record {
      sets = h.sets;
      few = h.few;
      collected =
          collected-more h.sets h.sets h.collected (grown-same F) (λ x l. refl) r read (λ on. absurd (true≢false (sym on ∙ off)));
      linked = linked-skip S.f S.t names h.sets links i fits here h.linked (ap (λ (x : Record). sends_by names x) (sym read) ∙ off);
    }

    module _ (g : ℕ) (small : g < 12) where
      abbrev more : ℕ → ℕ
      more q = cond (eqb q i) g (h.sets q)

      at-node : more i ≡ g
      at-node = rw (eq-eqb i i refl)

      below : (q : ℕ) → q < i → more q ≡ h.sets q
      below q l = rw (ne_eqb q i (λ e. absurd (omega (arith, l, e))))

      more-few : (q : ℕ) → more q < 12
      more-few q = elim (decided (eqb q i)) [ inl e ↦ rw e small | inr e ↦ rw e (h.few q) ]

      pub gathered-more : {G : Family} → Grown F G → sends_by names r ≡ true → Covers rule S G g (record { number = i; node = r })
          → GatheredTo G (link links g i) (i + 1)
      gathered-more {G} grown on covers = record {
        sets = more;
        few = more-few;
        collected = collected-more h.sets more h.collected grown below r read (λ e. rw at-node covers);
        linked =
            subst (λ (x : ℕ). LinkedTo S.f S.t names more (link links x i) (i + 1)) at-node
            (linked-more S.f S.t names more links i fits here (linked-same S.f S.t names h.sets more links i below h.linked)
            (ap (λ (x : Record). sends_by names x) (sym read) ∙ on) (more-few i));
      }

-- a rule's number is asked only whether it is 3
pub covers-alike : (r s : ℕ) → eqb r 3 ≡ eqb s 3 → {S : Setting} {F : Family} {g : ℕ} {q : Side} → Covers r S F g q → Covers s S F g q
covers-alike r s e c = record { arity = c.arity; channel = c.channel; sent = λ k. c.sent (e ∙ k); needs = λ k. c.needs (e ∙ k) }

-- whatever the bounds are
pub gathered-beside : {rule : ℕ} {S : Setting} {names links : List ℕ} {F : Family} → Gathered rule S names F links → (bounds : List ℕ)
    → Gathered rule (setting S.f S.t S.n S.rows S.loads bounds) names F links
gathered-beside k bounds = record {
  sets = k.sets;
  few = k.few;
  collected = record {
    room = k.collected.room;
    covers = λ q h by below.
        let c = k.collected.covers q record { below = h.below; is = h.is } by below in
        record { arity = c.arity; channel = c.channel; sent = c.sent; needs = c.needs };
  };
  linked = k.linked;
}
