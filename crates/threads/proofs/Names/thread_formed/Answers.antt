-- `Names::thread_formed` meets its contract: the tests of the model in its order.
use Prim.Native.Nat.{◌<◌}
use native.Mathlib.Omega.{arith}
use lib.ListN.{get_or, length, length-drop}
use Rattle.std.proofs.lemmas.List.{take_rest}
use mathlib.Core.Path.{◌≡◌, refl, sym, ap, ◌∙◌}
use mathlib.Core.Bool.{true}
use borrow.Author.Rules.{rules}
use Rattle.model.specs.Tree.{node_at, is_agent}
use Rattle.model.proofs.Tree.{agent-inside}
use Rattle.records.specs.ArrayFile.{array_in}
use Rattle.threads.proofs.Laws.{no-agent, marker-past, names-tell}
use Rattle.threads.proofs.Names.thread_formed.Goals as goal
use Rattle.threads.proofs.Names.thread_formed.Goals.{After-is_agent, Else-not-is_agent}

-- the node's record tells what the node is
tested : (c : After-is_agent) → c.is_agent.result ≡ is_agent (node_at (array_in c.args.self.now.array) (get_or c.args.thread.now 0 0))
tested c = c.is_agent.ensures ∙ ap is_agent c.node_or_stop-r.ensures

-- an agent is a node
agent : (c : Else-not-is_agent) → is_agent (node_at (array_in c.args.self.now.array) (get_or c.args.thread.now 0 0)) ≡ true
agent c = sym (c.is_agent.ensures ∙ ap is_agent c.node_or_stop-r.ensures) ∙ c.if-not-is_agent.false

inside : (c : Else-not-is_agent) → (get_or c.args.thread.now 0 0) < c.args.self.now.array.trailer.nodes
inside c = agent-inside (array_in c.args.self.now.array) _ (agent c)

pub returns-then-not-is_agent : goal.returns-then-not-is_agent
returns-then-not-is_agent c =
    let x = c.args in
    no-agent (array_in c.args.self.now.array) x.listed x.thread.now _ refl (sym (c.if-not-is_agent.true) ∙ tested (goal.at.returns-then-not-is_agent c).After-is_agent)

pub returns-then-listed-thread : goal.returns-then-listed-thread
returns-then-listed-thread c =
    let x = c.args in
    marker-past (array_in c.args.self.now.array) x.listed x.thread.now _ refl (agent (goal.at.returns-then-listed-thread c).Else-not-is_agent) (omega arith)

pub names_formed-requires : goal.names_formed-requires
names_formed-requires c =
    let i = inside (goal.at.names_formed-requires c).Else-not-is_agent in
    let few = c.args.self.now.read.formed.few_nodes in
    let names = c.args.self.now.read.formed.few_names in
    search rules

pub returns : goal.returns
returns c =
    let x = c.args in
    let whole = take_rest x.thread.now 2 in
    c.names_formed.ensures
    ∙ names-tell (array_in c.args.self.now.array) x.listed x.thread.now _ refl (agent (goal.at.returns c).Else-not-is_agent) x.self.now.frees.now x.self.now.news _ x.self.now.free x.self.now.opened
    (inside (goal.at.returns c).Else-not-is_agent) c.args.self.now.read.formed.few_names (omega arith) whole (ap length whole ∙ length-drop 2 x.thread.now ∙ omega arith)
