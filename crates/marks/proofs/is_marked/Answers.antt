-- What it computes is the definition.
use Rattle.std.proofs.Common.{refl}
use Rattle.marks.specs.Marks.{marked}
use Rattle.marks.proofs.is_marked.Goals as goal

pub returns : goal.returns
unfolding marked
returns c = refl
