-- What the checker's lists say of live pairs and figures, in an array file that was read.
use Prim.Native.Nat.{ℕ, ◌+◌, ◌<◌}
use native.Mathlib.Omega.{arith}
use mathlib.Core.Path.{◌≡◌, refl, sym, ap, ap₂, ◌∙◌}
use mathlib.Core.Logic.{inl, inr}
use mathlib.Core.Bool.{Bool, true, false, cond, ◌&&◌, true≢false}
use mathlib.Core.Option.{Option, none, some}
use lib.Dec.{eqb, leb}
use lib.ListN.{get_or}
use lib.Seq.{get_or-take}
use borrow.Author.Tests.{eqb-true}
use Rattle.laws.specs.Search.{clear, under}
use Rattle.laws.proofs.Search.{decided, and_split}
use Rattle.laws.proofs.Lists.{All-slice_index}
use Rattle.marks.specs.Marks.{HasRow, share, inside}
use Rattle.model.specs.Tree.{Array, Agent, agent_at, is_agent, receives}
use Rattle.model.specs.Memory.{is_out, is_resource}
use Rattle.model.specs.Rules.{Table, live, share_bit, fit_both, within, taken, load_left, weight_gone, Verdict, on_live}
use Rattle.records.specs.declared.Record.{Record}
use Rattle.records.specs.Record.{args_of, sort_of, node_of}
use Rattle.records.specs.Kinds.{is_receiver}
use Rattle.records.proofs.KindLaws.{receiver-is, sender-is, agent-sort, resource-is, in_is}
use Rattle.arrays.specs.Agents.{agent_in}
use Rattle.arrays.proofs.Agents.{agent-is, no-agent, small-arity, arity-is, name_below, args-below, left_below}
use Rattle.loads.specs.Loads.{load_in}
use Rattle.pairs.specs.declared.Side.{Side}
use Rattle.pairs.specs.Pairs.{Setting, Given, Held, array_in, table_in, figure_holds, meets, live_pair, argument_holds, balance_holds}
use Rattle.pairs.specs.Pairs.{taken_of, holds_at, NameRow, ArgumentRows}

-- q may come to p
abbrev pub near : Setting → Side → Side → Bool
near S p q = meets S.rows p q

abbrev pub alive : Setting → Side → Side → Bool
alive S p q = live_pair S.rows S.loads S.bounds S.n p q

-- a live pair meets
pub live-near : (S : Setting) (p q : Side) → alive S p q ≡ true → near S p q ≡ true
live-near S p q l = (and_split (near S p q) _ l).0

-- what comes to p sends
pub meet-sends : (S : Setting) (p q : Side) → near S p q ≡ true → is_out (node_of q.node) ≡ true
meet-sends S p q e = (and_split _ _ (and_split _ _ e).0).0

-- an in's weight goes, a resource's stays
taken_is : (r : Record) → is_receiver (node_of r) ≡ true → (w : ℕ) → taken_of r w ≡ taken (sort_of r) w
unfolding taken
taken_is r h w = elim (decided (is_resource (node_of r))) [ inl e ↦ rw (e, resource-is r e) | inr e ↦ rw (e, in_is r h e) ]

pub arg_is : (r : Record) (m : ℕ) → m < r.arity → get_or (args_of r) m 0 ≡ get_or r.args m 0
arg_is r m h = get_or-take r.arity r.args m 0 h

module _ {S : Setting} (g : Given S) where
  abbrev a : Array
  a = array_in S

  abbrev T : Table
  T = table_in S

  -- ---- rows of an agent's names

  row_fits_lem : (v : ℕ) → v < S.t.names → HasRow S.rows v
  row_fits_lem v h = omega (arith, g.read.formed.few_names, g.lists.many_rows)

  pub name-row : {p : Side} → Held S p → NameRow S.rows p
  name-row h k = row_fits_lem _ (name_below g.read h k)

  pub arg-row : {p : Side} → Held S p → is_agent (node_of p.node) ≡ true → (m : ℕ) → m < p.node.arity → HasRow S.rows (get_or p.node.args m 0)
  arg-row {p} h k m l =
      let e = arity-is g.read h in
      row_fits_lem _ (rw (← arg_is p.node m l) (All-slice_index (λ y. y < S.t.names) (args_of p.node) m 0 (args-below g.read h k) (omega arith)))

  -- ---- a node that does not receive is in no pair

  pub no-receiver : {p : Side} → Held S p → is_receiver (node_of p.node) ≡ false → (j : ℕ) (v : Agent → Agent → Verdict)
      → on_live T p.number j (agent_at a p.number) (agent_at a j) v ≡ clear
  unfolding on_live live under
  no-receiver {p} h k j v =
      elim (decided (is_agent (node_of p.node))) [
        | inl e ↦ rw (agent-is g.read h e) (sends (sym (agent-sort p.node e).0 ∙ k) (agent_at a j))
        | inr e ↦ rw (no-agent g.read h e)
      ]
    where
      sends : receives (sort_of p.node) ≡ false → (x : Option Agent) → on_live T p.number j (some (agent_in a p.node)) x v ≡ clear
      sends e none = refl
      sends e (some y) = rw e

  -- ---- a receiver p, and q

  module _ {p : Side} (hp : Held S p) (rp : is_receiver (node_of p.node) ≡ true) {q : Side} (hq : Held S q) where
    pub agent-p : is_agent (node_of p.node) ≡ true
    agent-p = (receiver-is p.node rp).0

    pub live-is : is_agent (node_of q.node) ≡ true → live T p.number q.number (agent_in a p.node) (agent_in a q.node) ≡ alive S p q
    unfolding live share_bit fit_both share
    live-is k = rw ((receiver-is p.node rp).1, ← (agent-sort q.node k).1, arity-is g.read hp, arity-is g.read hq)

    -- a search at the pair
    pub pair_is : (v : Agent → Agent → Verdict) → on_live T p.number q.number (agent_at a p.number) (agent_at a q.number) v
        ≡ under (alive S p q) (v (agent_in a p.node) (agent_in a q.node))
    unfolding on_live under
    pair_is v =
        elim (decided (is_agent (node_of q.node))) [
          | inl k ↦ rw (agent-is g.read hp agent-p, agent-is g.read hq k, live-is k)
          | inr k ↦ rw (agent-is g.read hp agent-p, no-agent g.read hq k, unsent k)
        ]
      where
        unsent : is_agent (node_of q.node) ≡ false → is_out (node_of q.node) ≡ false
        unsent k = elim (decided (is_out (node_of q.node))) [ inl e ↦ absurd (true≢false (sym (sender-is q.node e).0 ∙ k)) | inr e ↦ e ]

    -- ---- the figures of a pair that may meet

    module _ (l : near S p q ≡ true) where
      parts : (is_out (node_of q.node) && eqb p.node.arity q.node.arity ≡ true) × (share S.rows p.node.name S.rows q.node.name ≡ true)
      parts = and_split _ _ l

      pub live-shares : share S.rows p.node.name S.rows q.node.name ≡ true
      live-shares = parts.1

      agent-q : is_agent (node_of q.node) ≡ true
      agent-q = (sender-is q.node (and_split _ _ parts.0).0).0

      pub arities : p.node.arity ≡ q.node.arity
      arities = eqb-true _ _ (and_split (is_out (node_of q.node)) _ parts.0).1

      pub argument-rows : (m : ℕ) → m < p.node.arity → ArgumentRows S.rows p q m
      argument-rows m h =
          let e = arities in
          (omega (arith, small-arity g.read hp), arg-row hp agent-p m h, arg-row hq agent-q m (omega arith))

      pub argument_is : (m : ℕ) → m < p.node.arity → within T (get_or (args_of q.node) m 0) (get_or (args_of p.node) m 0) ≡ argument_holds S.rows p q m
      unfolding within inside
      argument_is m h = let e = arities in rw (arg_is q.node m (omega arith), arg_is p.node m h)

      balance-is : (k : ℕ) → k < S.n
          → leb (load_left (T.balance k) (agent_in a p.node) (agent_in a q.node)) (weight_gone (T.balance k) p.number q.number (agent_in a p.node))
          ≡ balance_holds S.loads p q k
      balance-is k h =
          let w = g.weighed.weighs in
          ap₂ leb (ap₂ ◌+◌ (sym (w _ k (left_below g.read hp agent-p) h)) (sym (w _ k (left_below g.read hq agent-q) h)))
          (ap (λ (x : ℕ). load_in S.loads q.number k + x) (sym (taken_is p.node rp _)))

      pub figure-is : (rule m : ℕ) → m < cond (eqb rule 3) p.node.arity S.n
          → figure_holds rule T p.number q.number (agent_in a p.node) (agent_in a q.node) m ≡ holds_at rule S.rows S.loads p q m
      figure-is rule m h =
          elim (decided (eqb rule 3)) [
            | inl e ↦ rw e (argument_is m (rw e at h))
            | inr e ↦ rw e (balance-is m (rw e at h))
          ]
