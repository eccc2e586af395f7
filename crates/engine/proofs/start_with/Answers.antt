-- The threads are counted first: too many, and nothing is written; else the unfolding of node 0 with no name bound is written.
use Prim.Native.Nat.{◌+◌, min}
use mathlib.Core.Path.{◌≡◌, refl, sym, ◌∙◌}
use lib.ListN.{length, replicate}
use Rattle.unfolds.specs.Unfold.{unfolded}
use Rattle.engine.proofs.Begun.{start-many, start-made}
use Rattle.engine.proofs.start_with.Goals as goal
use Rattle.engine.proofs.start_with.Goals.{After-count_threads-total}

-- how many threads there are
total-is : (c : After-count_threads-total) → let x = c.args in
    let g = x.ground.now in
    c.count_threads-total.result
    ≡ min 257 (0 + length (unfolded g.array.bytes.now g.array.trailer g.choices.now 0 0 (replicate g.array.trailer.names 0)))
total-is c = rw c.requires at c.count_threads-total.ensures.1

pub returns-then-not-threads_fit : goal.returns-then-not-threads_fit
returns-then-not-threads_fit c =
    let x = c.args in
    let g = x.ground.now in
    let many = sym c.threads_fit.ensures ∙ c.if-not-threads_fit.true in
    ((start-many g.array.bytes.now g.array.trailer g.choices.now x.threads.now _ (total-is (goal.at.returns-then-not-threads_fit c).After-count_threads-total) many, refl, refl), tt)

pub returns : goal.returns
returns c =
    let x = c.args in
    let g = x.ground.now in
    let few = sym c.threads_fit.ensures ∙ c.if-not-threads_fit.false in
    let words = rw (c.count_threads-total.ensures.0, c.requires) at c.unfold_node.ensures.1 in
    (start-made g.array.bytes.now g.array.trailer g.choices.now x.threads.now _ (total-is (goal.at.returns c).After-count_threads-total) few _ _ words, refl)
