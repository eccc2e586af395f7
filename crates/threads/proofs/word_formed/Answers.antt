-- `threads::word_formed` meets its contract: a name that isn't free, a word 0, a new that no row holds, and the two tests.
use native.Mathlib.Omega.{arith}
use mathlib.Core.Path.{ap}
use mathlib.Core.Bool.{Bool, ◌&&◌}
use lib.Dec.{leb}
use borrow.Author.Rules.{rules}
use borrow.Author.Tests.{eq-eqb, ne_eqb}
use Rattle.model.specs.Memory.{new_in, marker_in}
use Rattle.threads.specs.Threads.{word_ok}
use Rattle.marks.proofs.Laws.{marked-past}
use Rattle.threads.proofs.word_formed.Goals as goal

pub returns-then-not-free : goal.returns-then-not-free
unfolding word_ok
returns-then-not-free c = rw (c.if-not-free.true)

pub returns-then-x-eq0 : goal.returns-then-x-eq0
unfolding word_ok
returns-then-x-eq0 c = rw (c.if-not-free.false, eq-eqb c.args.x 0 c.if-x-eq0.true)

pub returns-then-new-ge256 : goal.returns-then-new-ge256
unfolding word_ok
returns-then-new-ge256 c =
    let x = c.args in
    rw (c.if-not-free.false, ne_eqb x.x 0 c.if-x-eq0.false, marked-past x.news.now (new_in x.x) (search rules) (omega arith))

pub returns : goal.returns
unfolding word_ok
returns c =
    let x = c.args in
    rw (c.if-not-free.false, ne_eqb x.x 0 c.if-x-eq0.false) (ap (λ (b : Bool). b && leb (marker_in x.x) x.listed) c.is_marked-opens.ensures)
