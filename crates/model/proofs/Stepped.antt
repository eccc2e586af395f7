-- An attempt that is made, taken apart once: everything that the invariants of a step ask for.
use Prim.Native.Nat.{ℕ, ◌<◌}
use mathlib.Core.Path.{◌≡◌, refl, sym, subst}
use mathlib.Core.Bool.{Bool, true, false, ◌&&◌, true≢false}
use mathlib.Core.List.{List, [], ◌∷◌}
use mathlib.Core.Option.{Option, none, some}
use lib.Dec.{ltb}
use lib.ListN.{length, get_or}
use borrow.Author.Tests.{ltb-true, eqb-true, not-true}
use Rattle.laws.proofs.Search.{and_split}
use Rattle.model.specs.Tree.{Array, Agent, agent_at, receives}
use Rattle.model.specs.Calculus.{Notation, Thread, Config, Attempt, Answer, refused, next, unless, on_agents, after, no_thread, cell, stepped}
use Rattle.model.specs.Calculus.{attempt, attempts}

module _ {X C : Type 0} (N : Notation X C) (a : Array) (c : Config X C) (u : Attempt) where
  abbrev pub receiver : Thread X C
  receiver = get_or c u.receiver (no_thread N)

  abbrev pub sender : Thread X C
  sender = get_or c u.sender (no_thread N)

  -- the two threads meet: p is the receiver's agent, q the sender's
  pub record Meet : Type 0 where
    pub p : Agent
    pub q : Agent
    pub below : (u.receiver < length c) × (u.sender < length c)
    pub receiver : agent_at a receiver.agent ≡ some p
    pub sender : agent_at a (get_or c u.sender (no_thread N)).agent ≡ some q
    pub receives : receives p.sort ≡ true
    pub sends : Rattle.model.specs.Tree.receives q.sort ≡ false
    pub arities : length p.args ≡ length q.args
    pub channels : N.same (cell N (get_or c u.receiver (no_thread N)).env p.channel) (cell N (get_or c u.sender (no_thread N)).env q.channel) ≡ true

  unless-next : (b : Bool) (n : ℕ) (k : Answer X C) (d : Config X C) → unless b n k ≡ next d → (b ≡ true) × (k ≡ next d)
  unfolding unless
  unless-next true n k d e = (refl, e)
  unless-next false n k d e = (cc, cc)

  on_agents-next : (x y : Option Agent) (k : Agent → Agent → Answer X C) (d : Config X C) → on_agents x y k ≡ next d
      → (p : Agent) × (q : Agent) × (x ≡ some p) × (y ≡ some q) × (k p q ≡ next d)
  unfolding on_agents
  on_agents-next x y k d e = go x y e
    where
      nothing : {Y : Type 0} → ◌≡◌ {A = Answer X C} (refused 25) (next d) → Y
      nothing e = let z : true ≡ false = cc in absurd (true≢false z)

      go : (x y : Option Agent) → on_agents x y k ≡ next d → (p : Agent) × (q : Agent) × (x ≡ some p) × (y ≡ some q) × (k p q ≡ next d)
      go none y e = nothing e
      go (some p) none e = nothing e
      go (some p) (some q) e = (p, q, refl, refl, e)

  -- an attempt that is not refused: its two threads meet, and it leaves what a step of them leaves
  pub attempt-next : (d : Config X C) → attempt N a c u ≡ next d → (m : Meet) × (d ≡ stepped N c u m.p m.q)
  unfolding attempt
  attempt-next d e =
      let s₁ = unless-next (ltb u.receiver (length c) && ltb u.sender (length c)) 24 _ d e in
      let s₂ = on_agents-next (agent_at a receiver.agent) (agent_at a sender.agent) _ d s₁.1 in
      let s₃ = unless-next _ 25 _ d s₂.4 in
      let s₄ = unless-next _ 26 _ d s₃.1 in
      let s₅ = unless-next _ 27 _ d s₄.1 in
      let i₁ = and_split _ _ s₁.0 in
      let i₃ = and_split _ _ s₃.0 in
      let z = s₅.1 in (
        record {
          p = s₂.0;
          q = s₂.1;
          below = (ltb-true _ _ i₁.0, ltb-true _ _ i₁.1);
          receiver = s₂.2;
          sender = s₂.3;
          receives = i₃.0;
          sends = not-true _ i₃.1;
          arities = eqb-true _ _ s₄.0;
          channels = s₅.0;
        },
        cc,
      )

  -- a statement that holds before an attempt and after each step that it may make holds after it
  pub attempt-keeps : (P : Config X C → Type 0) → P c → ((m : Meet) → P (stepped N c u m.p m.q)) → P (after (attempt N a c u) c)
  unfolding after
  attempt-keeps P h f = go (attempt N a c u) refl
    where
      go : (x : Answer X C) → attempt N a c u ≡ x → P (after x c)
      go (refused n) e = h
      go (next d) e = let s = attempt-next d e in subst P (sym s.1) (f s.0)

-- and one that holds before a list of attempts and that every step keeps holds after it
pub attempts-keep : {X C : Type 0} (N : Notation X C) (a : Array) (P : Config X C → Type 0)
    → ((c : Config X C) (u : Attempt) (m : Meet N a c u) → P c → P (stepped N c u m.p m.q))
    → (c : Config X C) (us : List Attempt) → P c → P (attempts N a c us)
unfolding attempts
attempts-keep N a P keeps c [] h = h
attempts-keep N a P keeps c (u ∷ us) h =
    attempts-keep N a P keeps (after (attempt N a c u) c) us (attempt-keeps N a c u P h (λ m. keeps c u m h))
