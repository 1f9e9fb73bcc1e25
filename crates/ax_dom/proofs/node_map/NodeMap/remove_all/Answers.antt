use Rattle.std.proofs.Common.{◌∙◌, arith}
use Rattle.ax_dom.proofs.Walks.{removed_none, removed_more}
use Rattle.ax_dom.proofs.node_map.NodeMap.remove_all.Goals as goal

pub loop-id-init : goal.loop-id-init
loop-id-init c = removed_none c.args.self.now

pub loop-id-preserved : goal.loop-id-preserved
loop-id-preserved c = c.remove.ensures ∙ removed_more c.args.self.now c.loop-id.self c.args.ids.now c.loop-id.id-index c.id-item.result c.requires (omega arith) c.id-item.is c.loop-id.invariant
