-- The loop's invariant: the words of the first v names stand from `at` on; every other word is as it was.
use mathlib.Core.Path.{◌≡◌}
use mathlib.Core.List.{[]}
use lib.ListN.{take}
use Rattle.laws.specs.Lists.{put}
use Rattle.marks.specs.Marks.{marked}
use Rattle.model.specs.Calculus.{cut_from}
use Rattle.model.specs.Memory.{words}
use Rattle.unfolds.proofs.write_names.Given as goal

abbrev pub invariant-loop-v : goal.invariant-loop-v
invariant-loop-v l =
    l.threads ≡ put l.at (cut_from (words []) (marked l.frees l.i) 0 (take l.v l.env)) l.initial.threads
