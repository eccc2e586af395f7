-- An agent passes its tests, and then goes by its sort: an out sends names of its row and binds none, the others bind their arguments.
use native.Mathlib.Omega.{arith}
use mathlib.Core.Path.{◌≡◌, sym, ◌∙◌}
use mathlib.Core.Bool.{true, false≢true}
use lib.ListN.{length, length-take}
use lib.Seq.{length-take-le}
use borrow.Author.Rules.{rules}
use Rattle.marks.specs.Marks.{marked}
use Rattle.records.proofs.KindLaws.{agent-continues}
use Rattle.laws.specs.Search.{every}
use Rattle.fields.specs.Fields.{rest_zero}
use Rattle.scans.specs.Pass.{record_fits}
use Rattle.scans.proofs.Node.{small-arity, Open, left_open, out-passes, in-passes}
use Rattle.scans.proofs.pass_agent.Goals as goal
use Rattle.scans.proofs.pass_agent.Goals.{Else-not-agent_fits}

tests : (c : Else-not-agent_fits) → let x = c.args in
    (record_fits x.m x.i x.r ≡ true) × (every 8 (rest_zero x.r) ≡ true) × (marked x.reach.now x.i x.r.name ≡ true)
tests c = c.agent_fits.ensures (c.if-not-agent_fits.false)

opened : (c : Else-not-agent_fits) → let x = c.args in Open x.i x.r.left x.reach.now x.parents.now
opened c =
    let r = c.args.r in
    left_open c.requires.ready r (tests c).0 (agent-continues r c.requires.agent.1)

pub agent_fits-requires : goal.agent_fits-requires
agent_fits-requires c =
    let here = c.requires.ready.here in
    let rows = c.requires.ready.rows in
    (omega arith, c.requires.agent.0, c.requires.agent.1)

pub returns-then-not-agent_fits : goal.returns-then-not-agent_fits
returns-then-not-agent_fits c e = absurd (false≢true e)

pub slice_bounds-args-end : goal.slice_bounds-args-end
slice_bounds-args-end c =
    let small = small-arity c.requires.ready c.args.r (tests (goal.at.slice_bounds-args-end c).Else-not-agent_fits).0 in
    let eight : length c.args.r.args ≡ 8 = search rules in
    sym (length-take-le c.args.r.arity c.args.r.args (omega arith))

pub args_marked-requires : goal.args_marked-requires
args_marked-requires c =
    let here = c.requires.ready.here in
    let rows = c.requires.ready.rows in
    omega arith

pub returns-then-not-args_marked : goal.returns-then-not-args_marked
returns-then-not-args_marked c e = absurd (false≢true e)

pub hand_down-requires : goal.hand_down-requires
hand_down-requires c = opened (goal.at.hand_down-requires c).Else-not-agent_fits

pub returns-then-sends : goal.returns-then-sends
returns-then-sends c e =
    let x = c.args in
    let fit = tests (goal.at.returns-then-sends c).Else-not-agent_fits in
    let out = sym c.sends.ensures ∙ c.if-sends.true in
    let marked = sym c.args_marked.ensures ∙ c.if-not-args_marked.false in
    out-passes c.requires.ready x.r fit.0 fit.1 c.requires.agent.1 fit.2 c.hand_down.new.reach c.hand_down.new.parents
    (c.hand_down.ensures.grown e) out marked c.hand_down.ensures.reach_after

pub count_args-requires : goal.count_args-requires
count_args-requires c =
    let small = small-arity c.requires.ready c.args.r (tests (goal.at.count_args-requires c).Else-not-agent_fits).0 in
    (c.requires.ready.names, c.requires.ready.few_names, omega (arith, length-take c.args.r.arity c.args.r.args))

pub hand_down-requires-2 : goal.hand_down-requires-2
hand_down-requires-2 c = opened (goal.at.hand_down-requires-2 c).Else-not-agent_fits

pub returns : goal.returns
returns c e =
    let x = c.args in
    let fit = tests (goal.at.returns c).Else-not-agent_fits in
    let receives = sym c.sends.ensures ∙ c.if-sends.false in
    in-passes c.requires.ready x.r fit.0 fit.1 c.requires.agent.1 fit.2 c.hand_down-2.new.reach c.hand_down-2.new.parents
    (c.hand_down-2.ensures.grown e) receives c.args_row.result c.count_args.new.binders c.args_row.ensures c.count_args.ensures c.hand_down-2.ensures.reach_after
