-- Demand 3: under an accepted table, whatever a list of attempts leaves is safe.
-- The invariant: each thread's free names hold openings that their rows allow, and no balance is exceeded. A start has it by rules 1
-- and 2, a step keeps it by rules 3 and 4, and with rule 5 it bounds the claims.
use Prim.Native.Nat.{ℕ, suc, ◌+◌, ◌*◌, ◌≤◌, ◌<◌}
use native.Mathlib.Nat.{le_trans, le_of_suc-le-suc, lt_of_not-le, mul-le-mul_left, mul-le-mul_right, mul_comm, mul-suc}
use native.Mathlib.Numerals.{add-one}
use native.Mathlib.Omega.{arith}
use mathlib.Core.Path.{◌≡◌, refl, sym, ap, ◌∙◌}
use mathlib.Core.Logic.{◌≢◌}
use mathlib.Core.Bool.{true, not, false≢true, true≢false}
use mathlib.Core.List.{List, ◌++◌}
use lib.Dec.{eqb}
use lib.ListN.{length, get_or, replicate}
use borrow.Author.Tests.{eqb-true, eq-eqb, ne_eqb}
use Rattle.laws.specs.Lists.{All}
use Rattle.laws.proofs.Search.{and_split, or_right}
use Rattle.laws.proofs.Lists.{All-map}
use Rattle.model.specs.Tree.{Array, Sort, out, inp, resource, Agent, agent_at, proc_at, receives, load, is_new}
use Rattle.model.specs.Formed.{WellFormed}
use Rattle.model.specs.Calculus.{Marker, Cell, unheld, holds, same_marker, same_cell, calculus, Choices, Thread, Config, Attempt}
use Rattle.model.specs.Calculus.{keep, stays, no_thread, marker_of, receiver_leaves, sender_leaves, stepped, start}
use Rattle.model.specs.Calculus.{attempts, run}
use Rattle.model.specs.Rules.{Table, balance_of, in_set, Live, taken, Rules, ClaimsFit, row_bits, held, verdict}
use Rattle.model.specs.Safe.{weighed, count, Safe}
use Rattle.model.proofs.Verdict.{held-rules}
use Rattle.model.proofs.Sets.{least-below}
use Rattle.model.proofs.Threads.{total-append, weighed-unfold, count-weighed, keep_one, keep_two, two-le}
use Rattle.model.proofs.Stepped.{Meet, attempts-keep}
use Rattle.model.proofs.Covers as C

-- threads, cells and configurations of the calculus
abbrev pub Th : Type 0
Th = Thread Marker Cell

abbrev pub Conf : Type 0
Conf = Config Marker Cell

abbrev pub thread : Conf → ℕ → Th
thread c i = get_or c i (no_thread calculus)

-- a count of n, each weighing more than a share of the bound, is at most m
few : (B m n s : ℕ) → s ≤ B → suc B * n ≤ (m + 1) * s → n ≤ m
few B m n s h k =
    le_of_suc-le-suc (lt_of_not-le λ (g : suc m ≤ n).
    let l₁ = mul-le-mul_left (suc B) g in
    let l₂ = mul-le-mul_left (m + 1) h in
    let e₁ : suc B * suc m ≡ suc m * B + suc m = mul_comm (suc B) (suc m) ∙ mul-suc (suc m) B in
    let e₂ : (m + 1) * B ≡ suc m * B = rw add-one in
    omega arith)

module _ (a : Array) (t : Table) (wf : WellFormed a) (rules : Rules a t) where
  -- a cell holds an opening that name v may hold
  pub record Fits (c : Cell) (v : ℕ) : Type 0 where
    pub opening : ℕ
    pub marker : Marker
    pub held : c ≡ holds opening marker
    pub bit : t.row v opening ≡ true
    pub small : opening < row_bits

  -- any marker will do
  abbrev pub Fine : Marker → Type 0
  Fine m = Unit {0}

  -- a new opens its own name, which rule 1 allows
  pub opens : (n : ℕ) (m : Marker) → n < a.names → is_new a n ≡ true → Fine m → Fits (calculus.holds n m) n
  unfolding calculus
  opens n m h r k = record { opening = n; marker = m; held = refl; bit = rules.rule1 n h r; small = le_trans h wf.few_names }

  abbrev pub Ok : Th → Type 0
  Ok = C.Ok calculus a wf Fits Fine opens

  -- ---- the invariant

  pub record Inv (c : Conf) : Type 0 where
    pub threads : All Ok c
    pub balances : (k : ℕ) → k < t.balances → weighed (t.balance k).weight c ≤ (t.balance k).bound

  pub start-inv : (ch : Choices) → Inv (start calculus a ch)
  unfolding start calculus
  start-inv ch = record {
    threads = C.start-ok calculus a wf Fits Fine opens tt ch;
    balances = λ k h.
        le_trans (weighed-unfold calculus (t.balance k).weight ch Marker.empty (replicate a.names unheld) (proc_at a 0)) (rules.rule2 k h);
  }

  -- ---- two threads meet

  module _ (c : Conf) (inv : Inv c) (u : Attempt) (m : Meet calculus a c u) where
    abbrev R : Th
    R = thread c u.receiver

    abbrev S : Th
    S = thread c u.sender

    R-ok : Ok R
    R-ok = C.receiver-ok calculus a wf Fits Fine opens c inv.threads u m

    S-ok : Ok S
    S-ok = C.sender-ok calculus a wf Fits Fine opens c inv.threads u m

    apart : u.receiver ≢ u.sender
    apart e =
        let f : agent_at a R.agent ≡ agent_at a S.agent = ap (λ x. agent_at a (thread c x).agent) e in
        let er = m.receiver in
        let es = m.sender in
        let g : m.p ≡ m.q = cc in
        let h : receives m.p.sort ≡ receives m.q.sort = ap (λ (z : Agent). receives z.sort) g in
        true≢false (sym m.receives ∙ h ∙ m.sends)

    shared : (o : ℕ) × (o < row_bits) × (t.row m.p.channel o ≡ true) × (t.row m.q.channel o ≡ true)
    unfolding calculus same_cell
    shared =
        let f = C.channel-fits calculus a wf Fits Fine opens R R-ok m.p m.receiver in
        let g = C.channel-fits calculus a wf Fits Fine opens S S-ok m.q m.sender in
        let z : same_cell (holds f.opening f.marker) (holds g.opening g.marker) ≡ true = rw (f.held, g.held) at m.channels in
        let n : f.opening ≡ g.opening = eqb-true _ _ (and_split (eqb f.opening g.opening) (same_marker f.marker g.marker) z).0 in
        (f.opening, f.small, f.bit, rw n g.bit)

    pub pair : Live t R.agent S.agent m.p m.q
    pair = record {
      receiver = m.receives;
      sender = m.sends;
      arities = m.arities;
      shares = shared;
      fits = λ k h.
          let w : Th → ℕ = λ th. (t.balance k).weight th.agent in
          le_trans (two-le w (no_thread calculus) c u.receiver u.sender apart m.below.0 m.below.1) (inv.balances k h);
    }

    -- what is sent fits its parameter
    arrives : (n : ℕ) → n < length m.p.args → Fits (get_or S.env (get_or m.q.args n 0) calculus.unheld) (get_or m.p.args n 0)
    arrives n h =
        let hq : n < length m.q.args = rw (← m.arities) h in
        let g = C.sent-fits calculus a wf Fits Fine opens S S-ok m.q m.sender m.sends n hq in
        let three = rules.rule3 R.agent R-ok.below S.agent S-ok.below m.p m.q m.receiver m.sender pair n h in
        record {
          opening = g.opening;
          marker = g.marker;
          held = g.held;
          bit = three g.opening g.small g.bit;
          small = g.small;
        }

    -- what stays, and what a step takes off
    left_over : (w : ℕ → ℕ)
        → weighed w (keep (stays m.p.sort u.receiver u.sender) c) + (w S.agent + taken m.p.sort (w R.agent)) ≡ weighed w c
    unfolding receives stays taken
    left_over w = go m.p.sort m.receives
      where
        r : ℕ
        r = u.receiver

        s : ℕ
        s = u.sender

        go : (x : Sort) → receives x ≡ true → weighed w (keep (stays x r s) c) + (w S.agent + taken x (w R.agent)) ≡ weighed w c
        go out e = absurd (false≢true e)
        go inp e =
            let k = keep_two (λ th. w th.agent) (no_thread calculus) (stays inp r s) c r s apart m.below.0 m.below.1
            (rw (eq-eqb r r refl)) (ap not (or_right (eqb s r) (eqb s s) (eq-eqb s s refl)))
            (λ i x y. rw (ne_eqb i r x, ne_eqb i s y)) in
            omega arith
        go resource e =
            let k = keep_one (λ th. w th.agent) (no_thread calculus) (stays resource r s) c s m.below.1 (rw (eq-eqb s s refl))
            (λ i x. rw (ne_eqb i s x)) in
            omega arith

    -- what a receiver becomes and what a sender leaves weigh no more than their loads
    becomes : (w : ℕ → ℕ) → weighed w (receiver_leaves calculus u.choices R S m.p m.q) ≤ load w m.p.body
    unfolding receiver_leaves
    becomes w = weighed-unfold calculus w u.choices (marker_of calculus m.p.sort R S) _ m.p.body

    goes : (w : ℕ → ℕ) → weighed w (sender_leaves calculus u.choices S m.q) ≤ load w m.q.body
    unfolding sender_leaves
    goes w = weighed-unfold calculus w u.choices S.marker S.env m.q.body

    pub meet-inv : Inv (stepped calculus c u m.p m.q)
    unfolding stepped
    meet-inv = record {
      threads = C.step_ok calculus a wf Fits Fine opens c inv.threads u m arrives tt;
      balances = λ k h.
          let w : ℕ → ℕ = (t.balance k).weight in
          let kept : Conf = keep (stays m.p.sort u.receiver u.sender) c in
          let x : Conf = receiver_leaves calculus u.choices R S m.p m.q in
          let y : Conf = sender_leaves calculus u.choices S m.q in
          let z = inv.balances k h in
          let hx = becomes w in
          let hy = goes w in
          let hk = left_over w in
          let four = rules.rule4 R.agent R-ok.below S.agent S-ok.below m.p m.q m.receiver m.sender pair k h in
          rw (total-append (λ th. w th.agent) kept (x ++ y), total-append (λ th. w th.agent) x y) (omega arith);
    }

  pub inv-safe : ClaimsFit t → (c : Conf) → Inv c → Safe a t c
  unfolding calculus
  inv-safe fit c inv = record {
    flows = All-map (λ th ok v f. let k = ok.covers v f in (k.opening, k.marker, k.held, k.bit)) c inv.threads;
    balances = inv.balances;
    claims = λ n h.
        let bound = (balance_of t n).bound in
        let five = rules.rule5 n h in
        few bound (t.claim n).most (count (in_set t n) c) (weighed (balance_of t n).weight c) (inv.balances (t.claim n).balance (fit n h))
        (count-weighed (balance_of t n).weight (in_set t n) (suc bound) ((t.claim n).most + 1)
        (λ i e. rw mul_comm (le_trans five (mul-le-mul_right ((t.claim n).most + 1) (least-below t n i e)))) c);
  }

-- Demand 3: a well-formed array, a table whose claims name its balances, accepted; any choices at the start, any list of attempts.
pub demand3 : (a : Array) (t : Table) → WellFormed a → ClaimsFit t → verdict a t ≡ held → (ch : Choices) (us : List Attempt) → Safe a t (run calculus a ch us)
unfolding run
demand3 a t wf fit e ch us =
    let rules = (held-rules a t).0 e in
    inv-safe a t wf rules fit (attempts calculus a (start calculus a ch) us)
    (attempts-keep calculus a (Inv a t wf rules) (λ c u m inv. meet-inv a t wf rules c inv u m) (start calculus a ch) us (start-inv a t wf rules ch))
