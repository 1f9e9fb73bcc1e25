use Rattle.std.proofs.Common.{take}
use Rattle.dom_ids.proofs.Changes.{ChangedSoFar}
use Rattle.dom_ids.proofs.index.IdIndex.change_nodes.Given as goal

abbrev pub invariant-loop-node : goal.invariant-loop-node
invariant-loop-node g l = ChangedSoFar l.fn.change l.dom (take l.node-index l.nodes) l.fn.self l.self
