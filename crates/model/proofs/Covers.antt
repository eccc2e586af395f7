-- What the cells of threads hold, for any way to write markers and cells: if each free name's cell fits it, so do the cells of what an
-- unfolding and a step leave. Fits: what a cell must be for a name; Fine: what a marker must be. Safety takes the rows of a table for
-- Fits, the lent lists take refusal 23.
use Prim.Native.Nat.{ℕ, suc, ◌<◌}
use native.Mathlib.Omega.{arith}
use mathlib.Core.Path.{◌≡◌, refl, sym, ap, ◌∙◌, subst}
use mathlib.Core.Logic.{◌⊎◌, inl, inr}
use mathlib.Core.Bool.{Bool, true, false, cond, false≢true, true≢false}
use mathlib.Core.List.{List, [], ◌∷◌}
use mathlib.Core.Option.{some}
use lib.Dec.{eqb}
use lib.ListN.{length, get_or, set, replicate, length-set, length-replicate, length-map}
use lib.Seq.{get_or-set_same, get_or-set_other}
use borrow.Author.Tests.{eqb-true, eqb-false, eq-eqb}
use Rattle.laws.specs.Lists.{All, has}
use Rattle.laws.proofs.Search.{decided, or_right}
use Rattle.laws.proofs.Lists.{All-append, All-slice_index, get_d_map, has_get_d}
use Rattle.model.specs.Tree.{Array, Sort, out, inp, resource, Proc, Agent, as_agent, agent_at, proc_at, is_free, free_below, receives, is_new}
use Rattle.model.specs.Formed.{WellFormed}
use Rattle.model.specs.Calculus.{Notation, Choices, Thread, Config, Attempt, unfold_proc, bind, keep, stays, no_thread, sent_cells, marker_of}
use Rattle.model.specs.Calculus.{receiver_leaves, sender_leaves, stepped, start}
use Rattle.model.proofs.Tree.{Wf, wf-proc_at, agent-tree}
use Rattle.model.proofs.Closed.{closed}
use Rattle.model.proofs.Threads.{keep_all, length_cut, slice_index-cut, slice_index-uncut, length-bind}
use Rattle.model.proofs.Stepped.{Meet}

-- ---- free names of an agent

module _ (i : ℕ) (s : Sort) (x : ℕ) (ys : List ℕ) (p : Proc) (v : ℕ) where
  free-inside : free_below s (has ys v) (is_free p v) ≡ true → is_free (Proc.agent i s x ys p) v ≡ true
  unfolding is_free
  free-inside ok = or_right (eqb v x) (free_below s (has ys v) (is_free p v)) ok

  free-channel : v ≡ x → is_free (Proc.agent i s x ys p) v ≡ true
  unfolding is_free
  free-channel e = rw (eq-eqb v x e)

-- what is sent, or free in a sender's continuation, is free in the sender
sent-free : (s : Sort) (b f : Bool) → receives s ≡ false → b ≡ true → free_below s b f ≡ true
unfolding receives free_below
sent-free out b f r e = rw e
sent-free inp b f r e = absurd (true≢false r)
sent-free resource b f r e = absurd (true≢false r)

rest-free : (s : Sort) (b f : Bool) → receives s ≡ false → f ≡ true → free_below s b f ≡ true
unfolding receives free_below
rest-free out b f r e = or_right b f e
rest-free inp b f r e = absurd (true≢false r)
rest-free resource b f r e = absurd (true≢false r)

-- what is free in a receiver's continuation and no parameter is free in the receiver
kept_free : (s : Sort) (b f : Bool) → receives s ≡ true → b ≡ false → f ≡ true → free_below s b f ≡ true
unfolding receives free_below
kept_free out b f r e h = absurd (false≢true r)
kept_free inp b f r e h = rw (e, h)
kept_free resource b f r e h = rw (e, h)

module _ {X C : Type 0} (N : Notation X C) (a : Array) (wf : WellFormed a) (Fits : C → ℕ → Type 0) (Fine : X → Type 0)
    (opens : (n : ℕ) (m : X) → n < a.names → is_new a n ≡ true → Fine m → Fits (N.holds n m) n) where
  -- an equal cell fits too
  refit : {c d : C} {v : ℕ} → d ≡ c → Fits c v → Fits d v
  refit {v = v} e k = subst (λ x. Fits x v) (sym e) k

  -- every free name of a process has a cell that fits
  abbrev pub Covers : List C → Proc → Type 0
  Covers e p = (v : ℕ) → is_free p v ≡ true → Fits (get_or e v N.unheld) v

  pub record Ok (th : Thread X C) : Type 0 where
    pub below : th.agent < a.size
    pub acts : (g : Agent) × (agent_at a th.agent ≡ some g)
    pub fine : Fine th.marker
    pub width : length th.env ≡ a.names
    pub covers : Covers th.env (proc_at a th.agent)
    pub bare : (v : ℕ) → is_free (proc_at a th.agent) v ≡ false → get_or th.env v N.unheld ≡ N.unheld

  -- ---- unfolding

  opened : (n : ℕ) (m : X) (e : List C) (p : Proc) → n < a.names → is_new a n ≡ true → Fine m → length e ≡ a.names
      → Covers e (Proc.new n p) → Covers (set e n (N.holds n m)) p
  unfolding is_free
  opened n m e p h r k w c v f = go (decided (eqb v n))
    where
      go : (eqb v n ≡ true) ⊎ (eqb v n ≡ false) → Fits (get_or (set e n (N.holds n m)) v N.unheld) v
      go (inl q) = let z = eqb-true v n q in rw z (refit (get_or-set_same e n (N.holds n m) N.unheld (omega arith)) (opens n m h r k))
      go (inr q) = refit (get_or-set_other e n v (N.holds n m) N.unheld (eqb-false v n q)) (c v (rw (q, f)))

  pub unfold-ok : (ch : Choices) (m : X) (e : List C) (p : Proc) → Wf a p → Fine m → length e ≡ a.names → Covers e p
      → All Ok (unfold_proc N ch m e p)
  unfolding unfold_proc is_free agent_at as_agent
  unfold-ok ch m e Proc.stop w k l c = tt
  unfold-ok ch m e (Proc.new n p) w k l c =
      unfold-ok ch m (set e n (N.holds n m)) p w.2 k (length-set e n (N.holds n m) ∙ l) (opened n m e p w.0 w.1 k l c)
  unfold-ok ch m e (Proc.par p q) w k l c =
      All-append Ok (unfold_proc N ch m e p) (unfold_proc N ch m e q)
      (unfold-ok ch m e p w.0 k l (λ v f. c v (rw f)))
      (unfold-ok ch m e q w.1 k l (λ v f. c v (or_right (is_free p v) (is_free q v) f)))
  unfold-ok ch m e (Proc.choice i p q) w k l c =
      pick (ch i) (unfold-ok ch m e p w.0 k l (λ v f. c v (rw f))) (unfold-ok ch m e q w.1 k l (λ v f. c v (or_right (is_free p v) (is_free q v) f)))
    where
      pick : (b : Bool) → All Ok (unfold_proc N ch m e p) → All Ok (unfold_proc N ch m e q) → All Ok (cond b (unfold_proc N ch m e q) (unfold_proc N ch m e p))
      pick true h k = k
      pick false h k = h
  unfold-ok ch m e (Proc.agent i s x ys p) w k l c = (
    record {
      below = w.0.below;
      acts = (record { sort = s; channel = x; args = ys; body = p }, ap as_agent w.0.here);
      fine = k;
      width = length_cut N (is_free (Proc.agent i s x ys p)) 0 e ∙ l;
      covers = rw w.0.here (λ v f. refit (slice_index-cut N (is_free (Proc.agent i s x ys p)) v e f) (c v f));
      bare = rw w.0.here (λ v f. slice_index-uncut N (is_free (Proc.agent i s x ys p)) v e f);
    },
    tt,
  )

  pub start-ok : Fine N.empty → (ch : Choices) → All Ok (start N a ch)
  unfolding start
  start-ok k ch =
      unfold-ok ch N.empty (replicate a.names N.unheld) (proc_at a 0) (wf-proc_at a wf.children wf.named 0 wf.some) k
      (length-replicate a.names N.unheld) (λ v f. absurd (closed a wf v f))

  -- ---- parameters take cells that fit them

  bound : (ys : List ℕ) (cs e : List C) (v : ℕ) → length ys ≡ length cs → All (λ y. y < length e) ys
      → ((n : ℕ) → n < length ys → Fits (get_or cs n N.unheld) (get_or ys n 0))
      → (has ys v ≡ false → Fits (get_or e v N.unheld) v)
      → Fits (get_or (bind ys cs e) v N.unheld) v
  unfolding bind has
  bound [] cs e v l b h k = k refl
  bound (y ∷ ys) [] e v l b h k = absurd (omega arith)
  bound (y ∷ ys) (c ∷ cs) e v l b h k =
      go (λ q. bound ys cs e v (omega arith) b.1 (λ n g. h (suc n) (omega arith)) (λ u. k (rw (q, u)))) (decided (eqb v y))
    where
      rest : List C
      rest = bind ys cs e

      go : (eqb v y ≡ false → Fits (get_or rest v N.unheld) v) → (eqb v y ≡ true) ⊎ (eqb v y ≡ false) → Fits (get_or (set rest y c) v N.unheld) v
      go ih (inl q) =
          let u = eqb-true v y q in
          let w : y < length rest = rw (length-bind ys cs e) b.0 in
          rw u (refit (get_or-set_same rest y c N.unheld w) (h 0 (omega arith)))
      go ih (inr q) = refit (get_or-set_other rest y v c N.unheld (eqb-false v y q)) (ih q)

  -- ---- one acting thread, with agent g

  module _ (th : Thread X C) (ok : Ok th) (g : Agent) (eg : agent_at a th.agent ≡ some g) where
    abbrev its : Proc
    its = Proc.agent th.agent g.sort g.channel g.args g.body

    covers-its : Covers th.env its
    covers-its = rw (agent-tree a wf.children th.agent g eg) at ok.covers

    wf-its : Wf a its
    wf-its = rw (agent-tree a wf.children th.agent g eg) at (wf-proc_at a wf.children wf.named th.agent ok.below)

    pub channel-fits : Fits (get_or th.env g.channel N.unheld) g.channel
    channel-fits = covers-its g.channel (free-channel th.agent g.sort g.channel g.args g.body g.channel refl)

    pub sent-fits : receives g.sort ≡ false → (n : ℕ) → n < length g.args → Fits (get_or th.env (get_or g.args n 0) N.unheld) (get_or g.args n 0)
    sent-fits r n h =
        covers-its (get_or g.args n 0)
        (free-inside th.agent g.sort g.channel g.args g.body (get_or g.args n 0) (sent-free g.sort _ _ r (has_get_d g.args n 0 h)))

    -- what a sender leaves
    rest_ok : receives g.sort ≡ false → (ch : Choices) → All Ok (unfold_proc N ch th.marker th.env g.body)
    rest_ok r ch =
        unfold-ok ch th.marker th.env g.body wf-its.1 ok.fine ok.width
        (λ v f. covers-its v (free-inside th.agent g.sort g.channel g.args g.body v (rest-free g.sort _ _ r f)))

    -- what a receiver becomes
    received-ok : receives g.sort ≡ true → (m : X) → Fine m → (cs : List C) → length g.args ≡ length cs
        → ((n : ℕ) → n < length g.args → Fits (get_or cs n N.unheld) (get_or g.args n 0))
        → (ch : Choices) → All Ok (unfold_proc N ch m (bind g.args cs th.env) g.body)
    received-ok r m k cs len h ch =
        unfold-ok ch m (bind g.args cs th.env) g.body wf-its.1 k (length-bind g.args cs th.env ∙ ok.width)
        (λ v f.
        bound g.args cs th.env v len (rw ok.width wf-its.0.args) h
        (λ n. covers-its v (free-inside th.agent g.sort g.channel g.args g.body v (kept_free g.sort _ _ r n f))))

  -- ---- two threads meet

  module _ (c : Config X C) (all : All Ok c) (u : Attempt) (m : Meet N a c u) where
    abbrev R : Thread X C
    R = get_or c u.receiver (no_thread N)

    abbrev S : Thread X C
    S = get_or c u.sender (no_thread N)

    pub receiver-ok : Ok R
    receiver-ok = All-slice_index Ok c u.receiver (no_thread N) all m.below.0

    pub sender-ok : Ok S
    sender-ok = All-slice_index Ok c u.sender (no_thread N) all m.below.1

    -- what was sent, where it fits the parameters
    module _ (arrives : (n : ℕ) → n < length m.p.args → Fits (get_or S.env (get_or m.q.args n 0) N.unheld) (get_or m.p.args n 0))
        (k : Fine (marker_of N m.p.sort R S)) where
      pub receiver-leaves : All Ok (receiver_leaves N u.choices R S m.p m.q)
      unfolding receiver_leaves
      receiver-leaves =
          received-ok R receiver-ok m.p m.receiver m.receives (marker_of N m.p.sort R S) k (sent_cells N S m.q)
          (m.arities ∙ sym (length-map m.q.args (λ y. get_or S.env y N.unheld)))
          (λ n h.
          let hq : n < length m.q.args = rw (← m.arities) h in
          refit (get_d_map (λ y. get_or S.env y N.unheld) m.q.args n 0 N.unheld hq) (arrives n h)) u.choices

      pub sender-leaves : All Ok (sender_leaves N u.choices S m.q)
      unfolding sender_leaves
      sender-leaves = rest_ok S sender-ok m.q m.sender m.sends u.choices

      pub step_ok : All Ok (stepped N c u m.p m.q)
      unfolding stepped
      step_ok =
          All-append Ok (keep (stays m.p.sort u.receiver u.sender) c) _
          (keep_all Ok (stays m.p.sort u.receiver u.sender) c all)
          (All-append Ok (receiver_leaves N u.choices R S m.p m.q) (sender_leaves N u.choices S m.q) receiver-leaves sender-leaves)
