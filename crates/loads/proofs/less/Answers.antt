-- Numbers in the lower half are read as they are.
use mir.Syntax.{w32}
use mir.ValLaws.{to_z_pos}
use Rattle.loads.proofs.less.Goals as goal

pub returns : goal.returns
returns c = rw (to_z_pos w32 c.args.a c.requires.0, to_z_pos w32 c.args.b c.requires.1)
