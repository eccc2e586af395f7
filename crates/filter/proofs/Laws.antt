-- A set that passes has no sender that breaks the rule with the receiver.
use Prim.Native.Nat.{ℕ, ◌+◌, ◌≤◌, ◌<◌}
use native.Mathlib.Omega.{arith}
use mathlib.Core.Path.{◌≡◌, refl, sym, ◌∙◌}
use mathlib.Core.Logic.{inl, inr}
use mathlib.Core.Bool.{true, false, true≢false}
use mathlib.Core.List.{List}
use lib.Dec.{eqb}
use borrow.Author.Tests.{eqb-true, eqb-false, ltb-false, le-leb, not-true}
use Rattle.laws.specs.Search.{clear}
use Rattle.laws.proofs.Search.{decided, and-join, every_true, true-every}
use Rattle.marks.specs.Marks.{marked}
use Rattle.marks.proofs.Laws.{inside-trans, share-inside}
use Rattle.model.specs.Memory.{is_out}
use Rattle.records.specs.declared.Record.{Record}
use Rattle.records.specs.Record.{node_of}
use Rattle.records.specs.Kinds.{is_receiver}
use Rattle.records.proofs.KindLaws.{sender-is}
use Rattle.loads.specs.Loads.{load_in}
use Rattle.pairs.specs.declared.Side.{Side}
use Rattle.pairs.specs.Pairs.{Setting, Given, Held, array_in, table_in, pairs_at, figures_of, all_hold, breaks_pair, need_of, taken_of}
use Rattle.pairs.proofs.Laws.{near, alive, live-near, arities, live-shares}
use Rattle.pairs.proofs.ByDifference.{light}
use Rattle.pairs.proofs.Search.{sound-row}
use Rattle.pairs.proofs.Beside.{given-beside}
use Rattle.senders.specs.Sets.{every_name, arity_mark, Family, Covers, Collected, Linked, Gathered}
use Rattle.senders.proofs.Laws.{sends-any}
use Rattle.filter.specs.declared.Sieve.{Sieve}
use Rattle.filter.specs.Filter.{may_come, figures_pass, SetSound, Sound}
use Rattle.filter.specs.Sieve.{setting_in, Sieves}

-- a sieve's rows and weighing are what pairs are looked for in
pub given-in : {s : Sieve} → Sieves s → Given (setting_in s)
given-in {s} h = given-beside s.w.now s.rows.now h.many_rows

-- a pair that is not live, or at which the rule holds, breaks nothing
unbroken : (rule : ℕ) (S : Setting) (p q : Side) → (alive S p q ≡ true → all_hold rule S.n S.rows S.loads p q ≡ true) → breaks_pair rule S p q ≡ false
unbroken rule S p q f = elim (decided (alive S p q)) [ inl e ↦ rw (e, f e) | inr e ↦ rw e ]

module _ (rule : ℕ) {S : Setting} (given : Given S) {p : Side} (hp : Held S p) (rp : is_receiver (node_of p.node) ≡ true)
    (F : Family) (g : ℕ) (q : Side) (hq : Held S q) (sends : is_out (node_of q.node) ≡ true) (covers : Covers rule S F g q) where
  -- no sender of the set may come
  pub far-set : may_come F.unions F.arities S.rows g p ≡ false → breaks_pair rule S p q ≡ false
  far-set e =
      unbroken rule S p q (λ l.
      absurd (true≢false (sym (and-join (comes l) (share-inside S.rows q.node.name F.unions g S.rows p.node.name covers.channel
      (live-shares given hp rp hq (live-near S p q l)))) ∙ e)))
    where
      comes : alive S p q ≡ true → marked F.arities 0 (arity_mark g p.node.arity) ≡ true
      comes l = rw (arities given hp rp hq (live-near S p q l)) covers.arity

  -- the rule holds beside all senders of the set together: with each that meets the receiver, live or not
  pub whole-holds : figures_pass rule S.n F.needs F.unions S.rows S.loads g p ≡ true → near S p q ≡ true
      → all_hold rule S.n S.rows S.loads p q ≡ true
  whole-holds e l =
      elim (decided (eqb rule 3)) [
        | inl three ↦
            rw three (true-every _ _ (λ m h.
            inside-trans _ _ _ _ _ _ (covers.sent three m (rw (← arities given hp rp hq l) h)) (every_true _ _ (rw three at e) m h)))
        | inr four ↦
            rw four (true-every _ _ (λ k h.
            le-leb _ _ (met k h (covers.needs four k h) (ltb-false _ _ (not-true _ (every_true _ _ (rw four at e) k h))))))
      ]
    where
      met : (k : ℕ) → k < S.n → need_of S.loads q.number q.node.left k ≤ load_in F.needs g k
          → load_in S.loads p.node.left k + load_in F.needs g k ≤ 65536 + taken_of p.node (load_in S.loads p.number k)
          → load_in S.loads p.node.left k + load_in S.loads q.node.left k
          ≤ load_in S.loads q.number k + taken_of p.node (load_in S.loads p.number k)
      met k h need give =
          omega (arith, need, give, light given hq (sender-is q.node sends).0 k h)

  pub whole_set : figures_pass rule S.n F.needs F.unions S.rows S.loads g p ≡ true → breaks_pair rule S p q ≡ false
  whole_set e = unbroken rule S p q (λ l. whole-holds e (live-near S p q l))

-- ---- set after set

module _ (rule : ℕ) (S : Setting) (F : Family) (links : List ℕ) (p : Side) where
  -- the sets below n, whichever sets the lists stand for
  abbrev pub SetsSound : ℕ → Type 0
  SetsSound n = (sets : ℕ → ℕ) → Collected rule S every_name F sets S.t.nodes → Linked S.f S.t every_name sets links
      → (g : ℕ) → g < n → SetSound rule S sets p g

  pub sets_more : (n : ℕ) → SetsSound n
      → ((sets : ℕ → ℕ) → Collected rule S every_name F sets S.t.nodes → Linked S.f S.t every_name sets links → SetSound rule S sets p n)
      → SetsSound (n + 1)
  sets_more n before here sets all linked g h =
      elim (decided (eqb g n)) [
        | inl e ↦ rw (eqb-true g n e) (here sets all linked)
        | inr e ↦ before sets all linked g (omega (arith, h, eqb-false g n e))
      ]

  -- each sender is in one of the sets: every name is marked
  pub sets-done : Given S → Gathered rule S every_name F links → SetsSound 12 → Sound rule S p
  sets-done given k all q hq sends =
      all k.sets k.collected k.linked (k.sets q.number) (k.few q.number) q hq (sends-any given hq sends) refl

-- ---- a node

-- only a receiver has figures
pub receives-figures : (rule n : ℕ) (r : Record) → (figures_of rule n r ≡ 0 → ⊥) → is_receiver (node_of r) ≡ true
receives-figures rule n r some = elim (decided (is_receiver (node_of r))) [ inl e ↦ e | inr e ↦ absurd (some (rw e)) ]

-- no sender breaks the rule with it, and nothing else does
pub sound-node : (rule : ℕ) {S : Setting} {p : Side} → Given S → Held S p → is_receiver (node_of p.node) ≡ true → Sound rule S p
    → pairs_at rule (array_in S) (table_in S) p.number ≡ clear
sound-node rule {S} {p} g hp rp sound =
    sound-row rule g hp rp (λ q hq. elim (decided (is_out (node_of q.node))) [ inl e ↦ sound q hq e | inr e ↦ rw e ])
