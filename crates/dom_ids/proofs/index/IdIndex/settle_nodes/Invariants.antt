use Rattle.std.proofs.Common.{take}
use Rattle.dom_ids.proofs.Settled.{SettledSoFar}
use Rattle.dom_ids.proofs.index.IdIndex.settle_nodes.Given as goal

abbrev pub invariant-loop-node : goal.invariant-loop-node
invariant-loop-node g l = SettledSoFar l.dom l.home (take l.node-index l.nodes) l.fn.self l.self
