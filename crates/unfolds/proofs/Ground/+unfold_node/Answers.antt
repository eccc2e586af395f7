-- By its node the threads are those of its children, side by side; the name that a new sets is put back, so the environment ends as it was.
use Rattle.std.proofs.Common.{◌<◌, ℕ, List, ◌++◌, length, refl, sym, ap, ◌∙◌, arith, length-set}
use lib.ListN.{set}
use Rattle.laws.proofs.Search.{or_left}
use Rattle.model.specs.Calculus.{choices_of}
use Rattle.records.specs.Kinds.{is_stop}
use Rattle.records.proofs.KindLaws as K
use Rattle.arrays.proofs.Agents.{left-above, right-above, new-below}
use Rattle.unfolds.specs.Unfold.{unfolded}
use Rattle.unfolds.proofs.Laws as U
use Rattle.unfolds.proofs.Ground.+unfold_node.Goals as goal
use Rattle.unfolds.proofs.Ground.+unfold_node.Goals.{After-node_at-r, Then-is_new}

-- what is known once the record was read
here : (n : ℕ) (c : After-node_at-r n) → let x = c.args in U.Stands x.self.now.array.bytes.now x.self.now.array.trailer x.i c.node_at-r.result
here n c = (c.args.self.now.prepared.read, record { below = c.requires.node; is = c.node_at-r.ensures })

-- a new's name is one of the environment's
named : (n : ℕ) (c : Then-is_new n) → let v = c.node_at-r.result.name in (v < length c.args.env.now) × (v < 256)
named n c =
    let p = c.requires in
    let v =
    new-below c.args.self.now.prepared.read (record { below = p.node; is = c.node_at-r.ensures }) (sym c.is_new.ensures ∙ c.if-is_new.true) in
    (omega (arith, v, p.names), omega (arith, v, c.args.self.now.prepared.read.formed.few_names))

pub returns-then-is_stop : goal.returns-then-is_stop
returns-then-is_stop n c =
    let x = c.args in
    let g = x.self.now in
    let stop = sym c.is_stop.ensures ∙ c.if-is_stop.true in
    (refl, U.written_none (U.unfolded-stop (here n (goal.at.returns-then-is_stop n c).After-node_at-r) g.choices.now x.marker x.env.now stop) c.requires.few)

pub bounds-env-v : goal.bounds-env-v
bounds-env-v n c = (named n (goal.at.bounds-env-v n c).Then-is_new).0

pub offset_bounds-env-v : goal.offset_bounds-env-v
offset_bounds-env-v n c = let v = named n (goal.at.offset_bounds-env-v n c).Then-is_new in omega (arith, v.1)

pub opened_word-requires : goal.opened_word-requires
opened_word-requires n c = ((named n (goal.at.opened_word-requires n c).Then-is_new).1, c.requires.marker)

pub bounds-env-v-then-is_new : goal.bounds-env-v-then-is_new
bounds-env-v-then-is_new n c = (named n (goal.at.bounds-env-v-then-is_new n c).Then-is_new).0

pub unfold_node-end-requires : goal.unfold_node-end-requires
unfolding is_stop
unfold_node-end-requires n c =
    let p = c.requires in
    let new = sym c.is_new.ensures ∙ c.if-is_new.true in
    let a = here n (goal.at.unfold_node-end-requires n c).After-node_at-r in
    let z = left-above a.0 a.1 (ap is_stop (K.new_is _ new)) in
    (omega (arith, z.0, z.1, c.decreases), U.below p z.1 (length-set c.args.env.now _ _) p.few)

pub bounds-env-v-then-is_new-2 : goal.bounds-env-v-then-is_new-2
bounds-env-v-then-is_new-2 n c =
    let v = named n (goal.at.bounds-env-v-then-is_new-2 n c).Then-is_new in
    let e = c.unfold_node-end.auto.env ∙ length-set c.args.env.now _ _ in
    omega (arith, v.0, e)

pub returns-then-is_new : goal.returns-then-is_new
returns-then-is_new n c =
    let x = c.args in
    let g = x.self.now in
    let v = c.node_at-r.result.name in
    let e = c.unfold_node-end.ensures in
    let new = sym c.is_new.ensures ∙ c.if-is_new.true in
    let word = ap (λ (w : ℕ). set x.env.now v w) c.opened_word.ensures in
    let law = U.unfolded-new (here n (goal.at.returns-then-is_new n c).After-node_at-r) g.choices.now x.marker x.env.now new in
    (U.restored x.env.now v _ e.0, U.written_same e.1 (law ∙ ap (unfolded g.array.bytes.now g.array.trailer g.choices.now _ x.marker) (sym word)))

pub unfold_node-mid-requires : goal.unfold_node-mid-requires
unfolding is_stop
unfold_node-mid-requires n c =
    let p = c.requires in
    let par = sym c.is_par.ensures ∙ c.if-is_par.true in
    let a = here n (goal.at.unfold_node-mid-requires n c).After-node_at-r in
    let z = left-above a.0 a.1 (ap is_stop (K.par-is _ par)) in
    (omega (arith, z.0, z.1, c.decreases), U.below p z.1 refl p.few)

pub unfold_node-requires : goal.unfold_node-requires
unfold_node-requires n c =
    let p = c.requires in
    let par = sym c.is_par.ensures ∙ c.if-is_par.true in
    let a = here n (goal.at.unfold_node-requires n c).After-node_at-r in
    let e = c.unfold_node-mid.ensures in
    let z = right-above a.0 a.1 (or_left _ _ par) in
    (omega (arith, z.0, z.1, c.decreases), U.below p z.1 (ap length e.0) (omega (arith, e.1.counted)))

pub returns-then-is_par : goal.returns-then-is_par
returns-then-is_par n c =
    let x = c.args in
    let g = x.self.now in
    let r = c.node_at-r.result in
    let par = sym c.is_par.ensures ∙ c.if-is_par.true in
    let d = c.unfold_node-mid.ensures in
    let e = c.unfold_node.ensures in
    let part : ℕ → List ℕ → _ = λ j e. unfolded g.array.bytes.now g.array.trailer g.choices.now j x.marker e in
    let law = U.unfolded-par (here n (goal.at.returns-then-is_par n c).After-node_at-r) g.choices.now x.marker x.env.now par
    ∙ ap (λ (v : List ℕ). part r.left x.env.now ++ part r.right v) (sym d.0) in
    let wide = U.wide-unfolded g.array.bytes.now g.array.trailer g.choices.now r.left x.marker x.env.now c.requires.names in
    (e.0 ∙ d.0, U.written_same (U.written_both g.array.trailer.names wide c.unfold_node-mid.auto.threads d.1 e.1) law)

pub unfold_node-requires-then-is_choice : goal.unfold_node-requires-then-is_choice
unfold_node-requires-then-is_choice n c =
    let p = c.requires in
    let choice = sym c.is_choice.ensures ∙ c.if-is_choice.true in
    let z = U.side-above (here n (goal.at.unfold_node-requires-then-is_choice n c).After-node_at-r) choice (choices_of c.args.self.now.choices.now c.args.i) in
    let j = c.chosen-side.ensures in
    (omega (arith, z.0, z.1, c.decreases, j), U.below p (rw j z.1) refl p.few)

pub returns-then-is_choice : goal.returns-then-is_choice
returns-then-is_choice n c =
    let x = c.args in
    let g = x.self.now in
    let choice = sym c.is_choice.ensures ∙ c.if-is_choice.true in
    let law = U.unfolded-choice (here n (goal.at.returns-then-is_choice n c).After-node_at-r) g.choices.now x.marker x.env.now choice
    ∙ ap (λ (j : ℕ). unfolded g.array.bytes.now g.array.trailer g.choices.now j x.marker x.env.now) (sym c.chosen-side.ensures) in
    let e = c.unfold_node-then-is_choice.ensures in
    (e.0, U.written_same e.1 law)

pub returns : goal.returns
returns n c =
    let x = c.args in
    let g = x.self.now in
    let p = c.requires in
    -- none of the others: an agent
    let agent = K.rest-agent c.node_at-r.result (sym c.is_stop.ensures ∙ c.if-is_stop.false) (sym c.is_new.ensures ∙ c.if-is_new.false)
    (sym c.is_par.ensures ∙ c.if-is_par.false) (sym c.is_choice.ensures ∙ c.if-is_choice.false) in (
      refl,
      U.written-agent (here n (goal.at.returns n c).After-node_at-r) g.choices.now x.marker x.env.now agent p.names g.frees.now c.args.self.now.prepared.free
          c.place_thread.ensures (omega (arith, c.min.ensures)),
    )
