use Rattle.std.proofs.Common.{take}
use Rattle.dom_ids.specs.Ordering.{AreWaysTo}
use Rattle.dom_ids.proofs.ordering.ways_to.Given as goal

abbrev pub invariant-loop-node : goal.invariant-loop-node
invariant-loop-node g l = AreWaysTo l.dom (take l.node-index l.nodes) l.ways
