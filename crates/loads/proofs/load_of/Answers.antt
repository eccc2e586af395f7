-- By the branches taken, the record is one of those that `load-node` lists.
use mathlib.Core.Path.{◌≡◌, sym, ◌∙◌}
use mathlib.Core.Bool.{false}
use Rattle.model.specs.Tree.{is_agent}
use Rattle.records.specs.Record.{node_of}
use Rattle.records.specs.Kinds.{is_stop, is_new_node}
use Rattle.records.proofs.KindLaws.{left-child, right_child, rest-branches}
use Rattle.loads.proofs.Laws.{load-node}
use native.Mathlib.Omega.{arith}
use Rattle.loads.proofs.load_of.Goals as goal
use Rattle.loads.proofs.load_of.Goals.{After-load_at-left, After-load_at-right}

-- a node with a child is neither agent nor stop, and with two children no new
continues : (c : After-load_at-left) → let n = node_of c.args.r in (is_agent n ≡ false) × (is_stop n ≡ false)
continues c = (
  sym c.is_agent.ensures ∙ c.if-is_agent.false,
  sym c.is_stop.ensures
      ∙ c.if-is_stop.false,
)

branches : (c : After-load_at-right) → is_new_node (node_of c.args.r) ≡ false
branches c = sym c.is_new.ensures ∙ c.if-is_new.false

pub returns-then-is_agent : goal.returns-then-is_agent
returns-then-is_agent c =
    let x = c.args in
    rw (load-node x.loads.now x.r x.k x.weight, sym c.is_agent.ensures ∙ c.if-is_agent.true)

pub returns-then-is_stop : goal.returns-then-is_stop
returns-then-is_stop c =
    let x = c.args in
    rw (
      load-node x.loads.now x.r x.k x.weight,
      sym c.is_agent.ensures
          ∙ c.if-is_agent.false,
      sym c.is_stop.ensures ∙ c.if-is_stop.true,
    )

pub load_at-left-requires : goal.load_at-left-requires
load_at-left-requires c =
    c.requires c.args.r.left (left-child c.args.r (sym c.is_stop.ensures ∙ c.if-is_stop.false))

pub returns-then-is_new : goal.returns-then-is_new
returns-then-is_new c =
    let x = c.args in
    let known = continues (goal.at.returns-then-is_new c).After-load_at-left in
    rw (load-node x.loads.now x.r x.k x.weight, known.0, known.1, sym c.is_new.ensures ∙ c.if-is_new.true) c.load_at-left.ensures.0

pub load_at-right-requires : goal.load_at-right-requires
load_at-right-requires c =
    let known = continues (goal.at.load_at-right-requires c).After-load_at-left in
    c.requires c.args.r.right (right_child c.args.r (rest-branches c.args.r known.0 known.1 (sym c.is_new.ensures ∙ c.if-is_new.false)))

pub returns-then-is_par : goal.returns-then-is_par
returns-then-is_par c =
    let x = c.args in
    let known = continues (goal.at.returns-then-is_par c).After-load_at-left in
    rw (load-node x.loads.now x.r x.k x.weight, known.0, known.1, branches (goal.at.returns-then-is_par c).After-load_at-right, sym c.is_par.ensures ∙ c.if-is_par.true) (omega arith)

pub returns-then-left-right : goal.returns-then-left-right
returns-then-left-right c =
    let x = c.args in
    let known = continues (goal.at.returns-then-left-right c).After-load_at-left in
    rw (
      load-node x.loads.now x.r x.k x.weight,
      known.0,
      known.1,
      branches (goal.at.returns-then-left-right c).After-load_at-right,
      sym c.is_par.ensures
          ∙ c.if-is_par.false,
    ) (omega arith)

pub returns : goal.returns
returns c =
    let x = c.args in
    let known = continues (goal.at.returns c).After-load_at-left in
    rw (
      load-node x.loads.now x.r x.k x.weight,
      known.0,
      known.1,
      branches (goal.at.returns c).After-load_at-right,
      sym c.is_par.ensures
          ∙ c.if-is_par.false,
    ) (omega arith)
