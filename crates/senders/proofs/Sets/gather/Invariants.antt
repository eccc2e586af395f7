-- The senders below node i are gathered, whatever the bounds are: node i is put into the set that is chosen for it.
use mathlib.Core.Path.{◌≡◌}
use lib.ListN.{length}
use mathlib.Core.List.{[]}
use Rattle.pairs.specs.Pairs.{setting}
use Rattle.senders.specs.Sets.{family}
use Rattle.senders.proofs.Gathering.{GatheredTo}
use Rattle.senders.proofs.Sets.gather.Given as goal

abbrev pub invariant-loop-i : goal.invariant-loop-i
invariant-loop-i l = record {
  seen : length l.seen ≡ 256;
  gathered : GatheredTo l.number (setting l.array.bytes.now l.array.trailer l.balances l.rows l.loads []) l.names (family l.self) l.self.links l.i;
}
