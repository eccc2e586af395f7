-- The list of noted senders: how it grows, and that a search of it is a search of the threads.
use Prim.Native.Nat.{ℕ, ◌+◌, ◌<◌}
use native.Mathlib.Nat.{not-suc-le-zero, eq-or-lt_of_le, add-zero}
use native.Mathlib.Omega.{arith}
use mathlib.Core.Path.{◌≡◌, sym, ap, ◌∙◌, subst}
use mathlib.Core.Logic.{⊎_elim}
use mathlib.Core.Bool.{true, false, and-false, true≢false}
use mathlib.Core.List.{List}
use lib.Dec.{eqb, ltb}
use lib.ListN.{length, get_or, set}
use lib.Seq.{get_or-set_same, get_or-set_other}
use borrow.Author.Count.{below_more}
use borrow.Author.Tests.{ltb-true, ltb-false}
use Rattle.laws.specs.Lists.{one}
use Rattle.laws.proofs.Search.{decided}
use Rattle.records.specs.declared.Trailer.{Trailer}
use Rattle.ready.specs.declared.Act.{Act}
use Rattle.ready.specs.Ready.{act_at, meet, NoneReady, Noted}

-- what is no out is ready with no receiver
no-sender : (p q : Act) → q.sends ≡ false → eqb (meet p q) 0 ≡ false
unfolding meet
no-sender p q h = rw (h, and-false p.receives)

module _ (s : List ℕ) (t : Trailer) (l : List ℕ) where
  pub noted-none : (xs : List ℕ) → Noted s t l 0 xs 0
  noted-none xs = record {
    few = omega arith;
    below = λ k h. absurd (not-suc-le-zero h);
    rising = λ j k h i. absurd (not-suc-le-zero i);
    whole = λ j h e. absurd (not-suc-le-zero h);
  }

  module _ (i : ℕ) (xs : List ℕ) (n : ℕ) (h : Noted s t l i xs n) where
    -- a store past the noted ones
    noted-store : (x : ℕ) → Noted s t l i (set xs n x) n
    noted-store x =
        let kept : (k : ℕ) → k < n → get_or (set xs n x) k 0 ≡ get_or xs k 0 = λ k lt. get_or-set_other xs n k x 0 (λ e. absurd (omega arith)) in
        record {
          few = h.few;
          below = λ k lt. rw (kept k lt) (h.below k lt);
          rising = λ j k lt m. rw (kept k m, kept j (omega arith)) (h.rising j k lt m);
          whole = λ j lt e. let w = h.whole j lt e in (w.0, w.1, kept w.0 w.1 ∙ w.2);
        }

    -- a thread that sends nothing, and one that does and is noted
    noted-skip : (act_at s t l i).sends ≡ false → Noted s t l (i + 1) xs n
    noted-skip ne = record {
      few = let f = h.few in omega arith;
      below = λ k lt. let b = h.below k lt in omega arith;
      rising = h.rising;
      whole = below_more (λ j. (act_at s t l j).sends ≡ true → (k : ℕ) × (k < n) × (get_or xs k 0 ≡ j)) i h.whole (λ e. absurd (true≢false (sym e ∙ ne)));
    }

    noted-add : get_or xs n 0 ≡ i → Noted s t l (i + 1) xs (n + 1)
    noted-add here = record {
      few = let f = h.few in omega arith;
      below = below_more (λ k. get_or xs k 0 < i + 1) n (λ k lt. let b = h.below k lt in omega arith) (omega arith);
      rising = λ j k lt m.
          below_more (λ k. j < k → get_or xs j 0 < get_or xs k 0) n (λ k m lt. h.rising j k lt m) (λ lt. let b = h.below j lt in omega arith) k m lt;
      whole = below_more (λ j. (act_at s t l j).sends ≡ true → (k : ℕ) × (k < n + 1) × (get_or xs k 0 ≡ j)) i
          (λ j lt e. let w = h.whole j lt e in let b = w.1 in (w.0, omega arith, w.2)) (λ e. (n, omega arith, here));
    }

    -- a search of the noted ones: none before the k-th is ready, or none at all
    module _ (p : Act) where
      at-noted : (j : ℕ) → j < i → ((k : ℕ) → k < n → get_or xs k 0 ≡ j → eqb (meet p (act_at s t l j)) 0 ≡ false) → eqb (meet p (act_at s t l j)) 0 ≡ false
      at-noted j lt f =
          ⊎_elim (λ (e : (act_at s t l j).sends ≡ true). let w = h.whole j lt e in f w.0 w.1 w.2)
          (λ (e : (act_at s t l j).sends ≡ false). no-sender p _ e) (decided (act_at s t l j).sends)

      pub none-past : ((k : ℕ) → k < n → eqb (meet p (act_at s t l (get_or xs k 0))) 0 ≡ false) → NoneReady s t l p i
      none-past f j lt = at-noted j lt (λ k m e. subst (λ (v : ℕ). eqb (meet p (act_at s t l v)) 0 ≡ false) e (f k m))

      pub none_before : (k : ℕ) → k < n → ((j : ℕ) → j < k → eqb (meet p (act_at s t l (get_or xs j 0))) 0 ≡ false) → NoneReady s t l p (get_or xs k 0)
      none_before k m f j lt = at-noted j (let b = h.below k m in omega arith) λ o r e.
          subst (λ (v : ℕ). eqb (meet p (act_at s t l v)) 0 ≡ false) e (f o (earlier o r e))
        where
          earlier : (o : ℕ) → o < n → get_or xs o 0 ≡ j → o < k
          earlier o r e = ⊎_elim (λ (y : ltb o k ≡ true). ltb-true o k y)
              (λ (y : ltb o k ≡ false). ⊎_elim (λ (q : k ≡ o). absurd (let d = ap (λ (v : ℕ). get_or xs v 0) q in omega arith))
              (λ (q : k < o). absurd (let d = h.rising k o q r in omega arith)) (eq-or-lt_of_le (ltb-false o k y))) (decided (ltb o k))

  -- a thread that was read: its position is stored, and counted where it sends
  pub noted_more : (i : ℕ) (xs : List ℕ) (n : ℕ) → Noted s t l i xs n → (q : Act) → q ≡ act_at s t l i → i < length xs
      → Noted s t l (i + 1) (set xs n i) (n + one q.sends)
  unfolding one
  noted_more i xs n h q e room =
      let f = h.few in
      let stored = noted-store i xs n h i in
      let same : (act_at s t l i).sends ≡ q.sends = ap (λ (a : Act). a.sends) (sym e) in
      ⊎_elim (λ (y : q.sends ≡ true). rw y (noted-add i (set xs n i) n stored (get_or-set_same xs n i 0 (omega arith))))
      (λ (y : q.sends ≡ false). rw (y, add-zero n) (noted-skip i (set xs n i) n stored (same ∙ y))) (decided q.sends)
