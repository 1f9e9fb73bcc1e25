use Rattle.std.proofs.Common.{arith}
use Rattle.ax_dom.proofs.Rewrites.{rebased_more}
use Rattle.ax_dom.proofs.node_map.NodeMap.rebase_depths.Goals as goal

pub loop-id-preserved : goal.loop-id-preserved
loop-id-preserved c = rebased_more _ _ _ c.args.ids.now c.loop-id.id-index c.id-item.result c.args.base c.args.top c.requires.once (omega arith) c.id-item.is c.loop-id.invariant c.rebase_depth.ensures
