-- Two words are set, and the names' words are put right behind them.
use native.Mathlib.Omega.{arith}
use mathlib.Core.Path.{◌∙◌}
use mathlib.Core.List.{[]}
use lib.ListN.{length-set}
use Rattle.marks.specs.Marks.{marked}
use Rattle.model.specs.Memory.{words}
use Rattle.model.proofs.Threads.{length_cut}
use Rattle.unfolds.proofs.Laws.{thread-put}
use Rattle.unfolds.proofs.write_thread.Goals as goal

pub bounds-threads-at-2 : goal.bounds-threads-at-2
bounds-threads-at-2 c = simp length-set (omega arith)

pub shape_of-threads : goal.shape_of-threads
shape_of-threads c = c.write_names.auto.threads ∙ simp length-set

pub returns : goal.returns
returns c =
    let x = c.args in
    let n = length_cut (words []) (marked x.frees.now x.i) 0 x.env.now in
    c.write_names.ensures ∙ thread-put x.at x.i x.marker _ x.threads.now (omega arith)
