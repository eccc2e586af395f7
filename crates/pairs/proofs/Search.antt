-- The search for the first pair that breaks a rule: what holds at each of the three loops, and one law for each way through them.
use Prim.Native.Nat.{ℕ, ◌+◌, ◌≤◌, ◌<◌}
use native.Mathlib.Omega.{arith}
use mathlib.Core.Path.{◌≡◌, refl, sym, ap, ◌∙◌}
use mathlib.Core.Logic.{inl, inr}
use mathlib.Core.Bool.{Bool, true, false, cond, not, ◌&&◌}
use mathlib.Core.List.{List}
use lib.Dec.{eqb}
use borrow.Author.Tests.{not-false}
use Rattle.std.specs.Prelude.{Option, Some, None}
use Rattle.laws.specs.Search.{clear, hit, test, under, first}
use Rattle.laws.proofs.Search.{decided, clear-test, hit-test, clear-under, first-zero, first-pass, first-here, first-same, clear_first, every_true}
use Rattle.model.specs.Tree.{agent_at}
use Rattle.model.specs.Rules.{Verdict, on_live, pairs}
use Rattle.records.specs.Record.{record_of, node_of}
use Rattle.records.specs.Kinds.{is_receiver}
use Rattle.arrays.proofs.Agents.{small-arity, arity-is}
use Rattle.pairs.specs.declared.Side.{Side}
use Rattle.pairs.specs.declared.Place.{Place}
use Rattle.pairs.specs.Pairs.{Setting, Given, Held, array_in, table_in, place_of, at_pair, pairs_at, pairs_of, placed, figures_of, holds_at, all_hold}
use Rattle.pairs.specs.Pairs.{Screened, breaks_pair, DifferencesOf, holds_by, ArgumentRows, Gives}
use Rattle.pairs.proofs.Laws.{near, alive, live-near, no-receiver, pair_is, figure-is}
use Rattle.pairs.proofs.ByDifference.{holds_by_lem, figures-there}

-- ---- the searches at a pair, at a receiver and at a figure

abbrev pub pair_at : ℕ → Setting → ℕ → ℕ → Verdict
pair_at rule S i j =
    on_live (table_in S) i j (agent_at (array_in S) i) (agent_at (array_in S) j) (at_pair rule (table_in S) i j)

abbrev pub row_at : ℕ → Setting → ℕ → Verdict
row_at rule S i = pairs_at rule (array_in S) (table_in S) i

abbrev pub figure_at : ℕ → Setting → Side → Side → ℕ → Verdict
figure_at rule S p q n = test (holds_at rule S.rows S.loads p q n) (place_of rule p.number q.number n)

-- ---- what holds at the loops: nothing is found so far

pub record AtReceiver (rule : ℕ) (S : Setting) (answer : Option Place) (i : ℕ) : Type 0 where
  pub given : Given S
  pub none : answer ≡ None
  pub within : i ≤ S.t.nodes
  pub passed : first i (λ k. row_at rule S k) ≡ clear

pub record AtSender (rule : ℕ) (S : Setting) (p : Side) (count : ℕ) (answer : Option Place) (j : ℕ) : Type 0 where
  pub receiver : AtReceiver rule S answer p.number
  pub reads : Held S p
  pub receives : is_receiver (node_of p.node) ≡ true
  pub many : count ≡ cond (eqb rule 3) p.node.arity S.n
  pub within : j ≤ S.t.nodes
  pub passed : first j (λ k. pair_at rule S p.number k) ≡ clear

pub record AtFigure (rule : ℕ) (S : Setting) (p : Side) (count : ℕ) (q : Side) (answer : Option Place) (n : ℕ) : Type 0 where
  pub sender : AtSender rule S p count answer q.number
  pub reads : Held S q
  pub lives : alive S p q ≡ true
  pub within : n ≤ count
  pub passed : first n (λ m. figure_at rule S p q m) ≡ clear

-- ---- the ways through the loops

same-under : (b : Bool) (f g : Verdict) → (b ≡ true → f ≡ g) → under b f ≡ under b g
unfolding under
same-under true f g e = e refl
same-under false f g e = refl

-- what is found at receiver p and q, of so many figures
pair-at : (rule : ℕ) {S : Setting} {p : Side} {count : ℕ} {q : Side} → Given S → Held S p → is_receiver (node_of p.node) ≡ true
    → count ≡ cond (eqb rule 3) p.node.arity S.n → Held S q
    → pair_at rule S p.number q.number ≡ under (alive S p q) (first count (λ m. figure_at rule S p q m))
unfolding at_pair
pair-at rule {S} {p} {count} {q} g hp rp many hq =
    pair_is g hp rp hq (at_pair rule (table_in S) p.number q.number)
    ∙ same-under (alive S p q) _ _ (λ l.
    rw (arity-is g.read hp, many)
    (first-same _ _ _ (λ m h. ap (λ (b : Bool). test b (place_of rule p.number q.number m)) (figure-is g hp rp hq (live-near S p q l) rule m h))))

-- where the rule holds at every figure, it holds at each
each-figure : (rule : ℕ) (S : Setting) (p q : Side) → all_hold rule S.n S.rows S.loads p q ≡ true
    → (m : ℕ) → m < cond (eqb rule 3) p.node.arity S.n → holds_at rule S.rows S.loads p q m ≡ true
each-figure rule S p q e m h =
    elim (decided (eqb rule 3)) [
      | inl three ↦ rw three (every_true _ _ (rw three at e) m (rw three at h))
      | inr four ↦ rw four (every_true _ _ (rw four at e) m (rw four at h))
    ]

-- a live pair that does not break the rule
whole : {b : Bool} (a : Bool) → b ≡ true → b && not a ≡ false → a ≡ true
whole a u e = not-false a (rw u at e)

-- ---- receivers at which nothing is found

-- the file's side j
abbrev pub side_at : Setting → ℕ → Side
side_at S j = record { number = j; node = record_of S.f S.t j }

module _ (rule : ℕ) {S : Setting} {p : Side} (g : Given S) (r : Held S p) where
  -- a node without figures: it receives nothing, or it has none
  pub nothing-found : figures_of rule S.n p.node ≡ 0 → row_at rule S p.number ≡ clear
  nothing-found e =
      clear_first S.t.nodes _ (λ j l.
      elim (decided (is_receiver (node_of p.node))) [
        | inl k ↦
            pair-at rule {q = side_at S j} g r k (sym (rw k at e)) record { below = l; is = refl }
            ∙ clear-under (alive S p (side_at S j)) _ (λ u. first-zero _)
        | inr k ↦ no-receiver g r k j (at_pair rule (table_in S) p.number j)
      ])

  -- a receiver without a pair that breaks the rule
  pub sound-row : is_receiver (node_of p.node) ≡ true → ((q : Side) → Held S q → breaks_pair rule S p q ≡ false) → row_at rule S p.number ≡ clear
  sound-row k sound =
      clear_first S.t.nodes _ (λ j l.
      pair-at rule {q = side_at S j} g r k refl record { below = l; is = refl }
      ∙ clear-under (alive S p (side_at S j)) _ (λ u.
      clear_first _ _ (λ m h.
      clear-test _ _ (each-figure rule S p (side_at S j)
      (whole (all_hold rule S.n S.rows S.loads p (side_at S j)) u (sound (side_at S j) record { below = l; is = refl })) m h))))

module _ {rule : ℕ} {S : Setting} where
  -- nothing is found below the first receiver
  pub begin : Given S → {from : ℕ} → from ≤ S.t.nodes → Screened rule (array_in S) (table_in S) from → AtReceiver rule S None from
  begin g {from} l below = record { given = g; none = refl; within = l; passed = clear_first from _ below }

  -- one receiver more
  pub row-passed : {answer : Option Place} {i : ℕ} → AtReceiver rule S answer i → i < S.t.nodes → row_at rule S i ≡ clear → AtReceiver rule S answer (i + 1)
  row-passed {answer} {i} h l e = record { given = h.given; none = h.none; within = omega arith; passed = first-pass _ i h.passed e }

  module _ {p : Side} {answer : Option Place} (h : AtReceiver rule S answer p.number) where
    -- a node without figures
    pub nothing-row : Held S p → figures_of rule S.n p.node ≡ 0 → AtReceiver rule S answer (p.number + 1)
    nothing-row r e = row-passed h r.below (nothing-found rule h.given r e)

    -- a receiver, before its senders
    pub row : {count : ℕ} → Held S p → count ≡ figures_of rule S.n p.node → (count ≡ 0 → ⊥) → AtSender rule S p count answer 0
    row {count} r e n =
        elim (decided (is_receiver (node_of p.node))) [
          | inl k ↦ record { receiver = h; reads = r; receives = k; many = rw k at e; within = omega arith; passed = first-zero _ }
          | inr k ↦ absurd (n (rw k at e))
        ]

  -- every receiver passed
  pub nowhere : {answer : Option Place} {i : ℕ} → AtReceiver rule S answer i → S.t.nodes ≤ i
      → placed rule answer ≡ pairs_of rule (array_in S) (table_in S)
  unfolding pairs
  nowhere {answer} {i} h l =
      let w = h.within in
      let e : i ≡ S.t.nodes = omega arith in
      rw h.none (sym (rw e at h.passed))

  module _ {p : Side} {count : ℕ} {answer : Option Place} {q : Side} (h : AtSender rule S p count answer q.number) (r : Held S q) where
    found_at : pair_at rule S p.number q.number ≡ under (alive S p q) (first count (λ m. figure_at rule S p q m))
    found_at = pair-at rule h.receiver.given h.reads h.receives h.many r

    -- one sender more
    pair-passed : pair_at rule S p.number q.number ≡ clear → AtSender rule S p count answer (q.number + 1)
    pair-passed e =
        let l = r.below in
        record {
          receiver = h.receiver;
          reads = h.reads;
          receives = h.receives;
          many = h.many;
          within = omega arith;
          passed = first-pass _ q.number h.passed e;
        }

    -- a pair that is not live
    pub skip-pair : alive S p q ≡ false → AtSender rule S p count answer (q.number + 1)
    unfolding under
    skip-pair e = pair-passed (found_at ∙ rw e)

    -- a live pair, before its figures
    pub pair : alive S p q ≡ true → AtFigure rule S p count q answer 0
    pair e = record { sender = h; reads = r; lives = e; within = omega arith; passed = first-zero _ }

  -- every sender passed
  pub next_row : {p : Side} {count : ℕ} {answer : Option Place} {j : ℕ} → AtSender rule S p count answer j → S.t.nodes ≤ j
      → AtReceiver rule S answer (p.number + 1)
  next_row {p} {count} {answer} {j} h l =
      let w = h.within in
      let e : j ≡ S.t.nodes = omega arith in
      row-passed h.receiver h.reads.below (rw e at h.passed)

  module _ {p : Side} {count : ℕ} {q : Side} {answer : Option Place} {n : ℕ} (h : AtFigure rule S p count q answer n) where
    pub figure-near : near S p q ≡ true
    figure-near = live-near S p q h.lives

    -- the rule at the figure, by differences
    module _ {gives rooms : List ℕ} (d : DifferencesOf S p gives rooms) (l : n < count) where
      w : AtSender rule S p count answer q.number
      w = h.sender

      pub figure-by : holds_by rule S.rows S.loads gives p q n ≡ holds_at rule S.rows S.loads p q n
      figure-by = holds_by_lem w.receiver.given w.reads w.receives d h.reads figure-near rule n (rw w.many at l)

      pub figure-there : (eqb rule 3 ≡ true → ArgumentRows S.rows p q n)
          × (eqb rule 3 ≡ false → Gives S.loads gives q.number q.node.left n)
      figure-there =
          let there = figures-there w.receiver.given w.reads w.receives d h.reads figure-near rule in
          let k = rw w.many at l in
          (λ e. there.0 e n (rw e at k), λ e. there.1 e n (rw e at k))

    -- the rule holds here
    pub pass : n < count → holds_at rule S.rows S.loads p q n ≡ true → AtFigure rule S p count q answer (n + 1)
    pass l e = record {
      sender = h.sender;
      reads = h.reads;
      lives = h.lives;
      within = omega arith;
      passed = first-pass _ n h.passed (clear-test _ _ e);
    }

    -- every figure passed
    pub next-pair : count ≤ n → AtSender rule S p count answer (q.number + 1)
    unfolding under
    next-pair l =
        let w = h.within in
        let e : n ≡ count = omega arith in
        pair-passed h.sender h.reads (found_at h.sender h.reads ∙ rw h.lives (rw e at h.passed))

    -- the rule fails here
    pub found : n < count → holds_at rule S.rows S.loads p q n ≡ false
        → placed rule (Some record { receiver = p.number; sender = q.number; figure = n }) ≡ pairs_of rule (array_in S) (table_in S)
    unfolding pairs under
    found l e =
        let w = h.sender in
        let place = place_of rule p.number q.number n in
        let at_n = first-here _ n count place h.passed (hit-test _ _ e) l in
        let at-q : pair_at rule S p.number q.number ≡ hit place = found_at w h.reads ∙ rw h.lives at_n in
        let at_p = first-here _ q.number S.t.nodes place w.passed at-q h.reads.below in
        sym (first-here _ p.number S.t.nodes place w.receiver.passed at_p w.reads.below)

    -- a figure below the count is small
    pub small-figure : n < count → n < 24
    small-figure l = go (eqb rule 3) h.sender.many
      where
        go : (b : Bool) → count ≡ cond b p.node.arity S.n → n < 24
        go true e = omega (arith, small-arity h.sender.receiver.given.read h.sender.reads)
        go false e = omega (arith, h.sender.receiver.given.lists.few)
