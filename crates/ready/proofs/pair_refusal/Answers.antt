-- `ready::pair_refusal` meets its contract: both threads by their records.
use mathlib.Core.Path.{sym, ap₂, ◌∙◌}
use Rattle.ready.specs.Ready.{meet}
use Rattle.ready.proofs.Laws.{met, agent-acts}
use Rattle.ready.proofs.pair_refusal.Goals as goal

pub returns : goal.returns
returns c =
    let a = c.args.array.now in
    let pre = c.requires in
    c.meets.ensures ∙ ap₂ meet c.act_at-p.ensures c.act_at-q.ensures
    ∙ sym (met a.bytes.now a.trailer pre.0 _ _ (agent-acts pre.1) (agent-acts pre.2))
