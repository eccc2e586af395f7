-- The rows lie between those of the first pass and those that every choice contains, and pairs that break rule 3 use a name that is left. A pass sets a
-- mark, or leaves no name.
use mathlib.Core.Path.{◌≡◌}
use lib.ListN.{length}
use Rattle.pairs.specs.Weighing.{beside, array_weighed}
use Rattle.mending.specs.Growing.{Clean}
use Rattle.mending.proofs.Passing.{Between, weight}
use Rattle.mending.proofs.mend_rows.Given as goal

abbrev pub invariant-loop-none : goal.invariant-loop-none
invariant-loop-none l = record {
  between : Between (beside l.w l.initial.so_far.rows) l.so_far.rows;
  clean : Clean (beside l.w l.so_far.rows) l.so_far.names;
  names : length l.so_far.names ≡ 4;
}

abbrev pub decreases-loop-none : goal.decreases-loop-none
decreases-loop-none l = weight (array_weighed l.w) l.so_far.rows l.so_far.names
