-- What a list of attempts leaves is a configuration of the array: its threads are agents, and what their free names hold was opened by the
-- array's names.
use Prim.Native.Nat.{ℕ, ◌<◌}
use mathlib.Core.Path.{◌≡◌, refl, sym, ◌∙◌, subst}
use mathlib.Core.Bool.{true}
use mathlib.Core.List.{List}
use Rattle.laws.specs.Lists.{All}
use Rattle.laws.proofs.Lists.{All-map}
use Rattle.model.specs.Tree.{Array, is_new}
use Rattle.model.specs.Formed.{WellFormed}
use Rattle.model.specs.Calculus.{Marker, Cell, holds, calculus, Choices, Thread, Config, Attempt, stepped, start, attempts, run}
use Rattle.model.specs.Same.{IsThread, IsConfig}
use Rattle.model.proofs.Stepped.{Meet, attempts-keep}
use Rattle.model.proofs.Nodes.{acts-agent}
use Rattle.model.proofs.Covers as C

module _ (a : Array) (wf : WellFormed a) where
  -- a cell holds what one of the array's names opened
  record Opened (c : Cell) (v : ℕ) : Type 0 where
    opening : ℕ
    marker : Marker
    held : c ≡ holds opening marker
    below : opening < a.names

  abbrev Fine : Marker → Type 0
  Fine m = Unit {0}

  opens : (n : ℕ) (m : Marker) → n < a.names → is_new a n ≡ true → Fine m → Opened (calculus.holds n m) n
  unfolding calculus
  opens n m h r k = record { opening = n; marker = m; held = refl; below = h }

  abbrev Ok : Thread Marker Cell → Type 0
  Ok = C.Ok calculus a wf Opened Fine opens

  started : (ch : Choices) → All Ok (start calculus a ch)
  started ch = C.start-ok calculus a wf Opened Fine opens tt ch

  -- what is sent is held, whatever the parameter
  stepped-ok : (c : Config Marker Cell) (u : Attempt) (m : Meet calculus a c u) → All Ok c → All Ok (stepped calculus c u m.p m.q)
  stepped-ok c u m ok =
      C.step_ok calculus a wf Opened Fine opens c ok u m
      (λ n h.
      let f = C.sent-fits calculus a wf Opened Fine opens _ (C.sender-ok calculus a wf Opened Fine opens c ok u m) m.q m.sender m.sends n
      (subst (λ x. n < x) m.arities h) in
      record { opening = f.opening; marker = f.marker; held = f.held; below = f.below }) tt

  is-thread : (th : Thread Marker Cell) → Ok th → IsThread a th
  unfolding calculus
  is-thread th ok = record {
    agent = acts-agent a wf.children th.agent ok.acts.0 ok.acts.1;
    opened = λ v o m free e.
        let f = ok.covers v free in
        let q : f.opening ≡ o = same (sym f.held ∙ e) in
        subst (λ x. x < a.names) q f.below;
  }
    where
      same : {o p : ℕ} {m n : Marker} → holds o m ≡ holds p n → o ≡ p
      same e = cc

  pub reached : (ch : Choices) (us : List Attempt) → IsConfig a (run calculus a ch us)
  unfolding run
  reached ch us =
      All-map is-thread (attempts calculus a (start calculus a ch) us)
      (attempts-keep calculus a (All Ok) stepped-ok (start calculus a ch) us (started ch))
