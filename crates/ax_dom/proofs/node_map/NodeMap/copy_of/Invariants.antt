use Rattle.std.proofs.Common.{take}
use Rattle.ax_dom.specs.Copies.{AreCopiedAt}
use Rattle.ax_dom.proofs.node_map.NodeMap.copy_of.Given as goal

abbrev pub invariant-loop-id : goal.invariant-loop-id
invariant-loop-id l = AreCopiedAt l.self l.copy (take l.id-index l.ids)
