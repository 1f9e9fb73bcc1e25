use Rattle.std.proofs.Common.{arith}
use Rattle.ax_dom.proofs.Copied.{none_copied, one_copied, all_copied}
use Rattle.ax_dom.proofs.node_map.NodeMap.copy_of.Goals as goal

pub loop-id-init : goal.loop-id-init
loop-id-init c = none_copied c.args.self.now c.new-copy.result c.args.ids.now c.new-copy.ensures

pub loop-id-preserved : goal.loop-id-preserved
loop-id-preserved c = one_copied c.args.self.now c.loop-id.copy c.args.ids.now c.loop-id.id-index c.id-item.result (omega arith) c.id-item.is c.loop-id.invariant c.add_copy.new.self c.in_ok-add_copy.ensures

pub returns : goal.returns
returns c = all_copied c.args.self.now c.loop-id.copy c.args.ids.now c.loop-id.id-index (omega arith) c.loop-id.invariant
