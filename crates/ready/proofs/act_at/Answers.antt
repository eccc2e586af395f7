-- `ready::act_at` meets its contract: the agent's record says it all.
use Prim.Native.Nat.{◌+◌, ◌*◌, ◌<◌}
use mathlib.Core.Path.{◌≡◌, sym, ap, ◌∙◌, subst}
use lib.ListN.{get_or, drop}
use borrow.Author.Rules.{rules}
use Rattle.model.specs.Memory.{thread_in, is_out}
use Rattle.model.proofs.Tree.{agent-inside}
use Rattle.model.proofs.Memory.{agent-word, name-word}
use Rattle.records.specs.declared.Record.{Record}
use Rattle.records.specs.Record.{record_of, node_of, array_of}
use Rattle.records.specs.Kinds.{is_receiver}
use Rattle.ready.proofs.Laws.{agent-name}
use Rattle.ready.proofs.act_at.Goals as goal
use Rattle.ready.proofs.act_at.Goals.{After-node_at-r}

-- the record is that of the thread's agent, whose channel is a name
record_is : (c : After-node_at-r) → let a = c.args.array.now in
    c.node_at-r.result ≡ record_of a.bytes.now a.trailer (get_or c.args.threads.now (c.args.i * (2 + a.trailer.names)) 0)
record_is c = c.node_at-r.ensures

named : (c : After-node_at-r) → c.node_at-r.result.name < c.args.array.now.trailer.names
named c =
    let a = c.args.array.now in
    subst (λ (r : Record). r.name < a.trailer.names) (sym (record_is c)) (agent-name a.bytes.now a.trailer c.requires.0 _ c.requires.1.agent)

pub node_at-r-requires : goal.node_at-r-requires
node_at-r-requires c =
    let a = c.args.array.now in
    agent-inside (array_of a.bytes.now a.trailer) _ c.requires.1.agent

pub overflow_add-result-2 : goal.overflow_add-result-2
overflow_add-result-2 c = let name = named (goal.at.overflow_add-result-2 c).After-node_at-r in let h = c.requires.1.inside in search rules

pub offset_bounds-threads-at-2 : goal.offset_bounds-threads-at-2
offset_bounds-threads-at-2 c = let name = named (goal.at.offset_bounds-threads-at-2 c).After-node_at-r in let h = c.requires.1.inside in search rules

pub bounds-threads-at-2 : goal.bounds-threads-at-2
bounds-threads-at-2 c = let name = named (goal.at.bounds-threads-at-2 c).After-node_at-r in let h = c.requires.1.inside in search rules

pub returns : goal.returns
returns c =
    let a = c.args.array.now in
    let s = a.bytes.now in
    let t = a.trailer in
    let l = c.args.threads.now in
    let at = c.args.i * (2 + t.names) in
    let it = thread_in t.names (drop at l) in
    let r : c.node_at-r.result ≡ record_of s t it.agent = record_is (goal.at.returns c).After-node_at-r ∙ ap (record_of s t) (sym (agent-word t.names at l)) in
    let word : get_or l (at + 2 + c.node_at-r.result.name) 0 ≡ get_or it.env (record_of s t it.agent).name 0 =
    sym (name-word t.names at l _ (named (goal.at.returns c).After-node_at-r)) ∙ ap (λ (v : Record). get_or it.env v.name 0) r in
    let receives = c.receives.ensures ∙ ap (λ (v : Record). is_receiver (node_of v)) r in
    let sends = c.sends.ensures ∙ ap (λ (v : Record). is_out (node_of v)) r in
    λ i. record { receives = receives i; sends = sends i; arity = (r i).arity; channel = word i }
