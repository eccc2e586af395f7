-- A node that is no agent uses no name: a stop hands nothing down, a new its name too, par and choice go two ways.
use native.Mathlib.Omega.{arith}
use mathlib.Core.Path.{◌≡◌, sym, ◌∙◌}
use mathlib.Core.Bool.{true, false, false≢true}
use Rattle.laws.proofs.Search.{and_split}
use Rattle.records.specs.Record.{node_of}
use Rattle.records.specs.Kinds.{is_stop, is_new_node}
use Rattle.records.proofs.KindLaws.{rest-branches}
use Rattle.laws.specs.Search.{every}
use Rattle.fields.specs.Fields.{rest_zero}
use Rattle.scans.specs.Pass.{record_fits}
use Rattle.scans.proofs.Node.{left_open, right-open, stop-passes, new-passes, two-passes}
use Rattle.scans.proofs.pass_other.Goals as goal
use Rattle.scans.proofs.pass_other.Goals.{Else-is_new, Else-is_stop, Else-not-record_fits-rest_zero}

tests : (c : Else-not-record_fits-rest_zero) → let x = c.args in (record_fits x.m x.i x.r ≡ true) × (every 8 (rest_zero x.r) ≡ true)
tests c =
    let s = and_split c.record_fits.result c.rest_zero.result (c.if-not-record_fits-rest_zero.false) in
    (sym c.record_fits.ensures ∙ s.0, c.rest_zero.ensures s.1)

goes : (c : Else-is_stop) → is_stop (node_of c.args.r) ≡ false
goes c = sym c.is_stop.ensures ∙ c.if-is_stop.false

-- and no new
binds-none : (c : Else-is_new) → is_new_node (node_of c.args.r) ≡ false
binds-none c = sym c.is_new.ensures ∙ c.if-is_new.false

pub returns-then-not-record_fits-rest_zero : goal.returns-then-not-record_fits-rest_zero
returns-then-not-record_fits-rest_zero c e = absurd (false≢true e)

pub returns-then-is_stop : goal.returns-then-is_stop
returns-then-is_stop c e =
    let fit = tests (goal.at.returns-then-is_stop c).Else-not-record_fits-rest_zero in
    let last = sym c.is_stop.ensures ∙ c.if-is_stop.true in
    stop-passes c.requires.ready c.args.r fit.0 fit.1 c.requires.no_agent.1 last

pub count-requires : goal.count-requires
count-requires c =
    let names = c.requires.ready.names in
    (omega arith, omega (arith, c.requires.ready.few_names c.args.r.name))

pub name_row-requires : goal.name_row-requires
name_row-requires c = c.requires.no_agent.0

pub hand_down-requires : goal.hand_down-requires
hand_down-requires c =
    left_open c.requires.ready c.args.r (tests (goal.at.hand_down-requires c).Else-not-record_fits-rest_zero).0 (goes (goal.at.hand_down-requires c).Else-is_stop)

pub returns-then-is_new : goal.returns-then-is_new
returns-then-is_new c e =
    let fit = tests (goal.at.returns-then-is_new c).Else-not-record_fits-rest_zero in
    let new = sym c.is_new.ensures ∙ c.if-is_new.true in
    new-passes c.requires.ready c.args.r fit.0 fit.1 c.requires.no_agent.1 (goes (goal.at.returns-then-is_new c).Else-is_stop) new
    c.name_row.result c.hand_down.new.reach c.hand_down.new.parents c.count.new.table c.name_row.ensures c.hand_down.ensures.reach_after (c.hand_down.ensures.grown e) c.count.ensures

pub hand_down-requires-2 : goal.hand_down-requires-2
hand_down-requires-2 c =
    left_open c.requires.ready c.args.r (tests (goal.at.hand_down-requires-2 c).Else-not-record_fits-rest_zero).0 (goes (goal.at.hand_down-requires-2 c).Else-is_stop)

pub returns-then-not-hand_down : goal.returns-then-not-hand_down
returns-then-not-hand_down c e = absurd (false≢true e)

pub hand_down-requires-3 : goal.hand_down-requires-3
hand_down-requires-3 c =
    let r = c.args.r in
    let double = rest-branches r c.requires.no_agent.1 (goes (goal.at.hand_down-requires-3 c).Else-is_stop) (binds-none (goal.at.hand_down-requires-3 c).Else-is_new) in
    right-open c.requires.ready r (tests (goal.at.hand_down-requires-3 c).Else-not-record_fits-rest_zero).0 double c.hand_down-2.new.reach c.hand_down-2.new.parents c.hand_down-2.auto.reach c.hand_down-2.auto.parents

pub returns : goal.returns
returns c e =
    let fit = tests (goal.at.returns c).Else-not-record_fits-rest_zero in
    two-passes c.requires.ready c.args.r fit.0 fit.1 c.requires.no_agent.1 (goes (goal.at.returns c).Else-is_stop) (binds-none (goal.at.returns c).Else-is_new)
    c.hand_down-2.new.reach c.hand_down-2.new.parents c.hand_down-3.new.reach c.hand_down-3.new.parents c.hand_down-2.ensures.reach_after c.hand_down-3.ensures.reach_after
    c.hand_down-2.auto.parents (c.hand_down-2.ensures.grown (c.if-not-hand_down.false)) (c.hand_down-3.ensures.grown e)
