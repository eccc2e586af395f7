-- By recursion on the node: its children lie above it, so `nodes - i` falls.
use Rattle.std.proofs.Common.{◌-◌}
use Rattle.unfolds.proofs.Ground.+unfold_node.Given as goal

abbrev pub decreases-unfold_node : goal.decreases-unfold_node
decreases-unfold_node l = l.self.now.array.trailer.nodes - l.i
