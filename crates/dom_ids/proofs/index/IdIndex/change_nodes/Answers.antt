use Rattle.std.proofs.Common.{refl, arith}
use Rattle.dom_ids.proofs.Changes.{more_changed, all_changed}
use Rattle.dom_ids.proofs.index.IdIndex.change_nodes.Goals as goal

pub loop-node-init : goal.loop-node-init
loop-node-init g c = record { rising = c.requires.rising; value = λ x. refl }

pub loop-node-preserved : goal.loop-node-preserved
loop-node-preserved g c =
    more_changed c.args.change c.args.dom.now c.args.nodes.now c.args.self.now c.loop-node.self c.change_node.new.self c.loop-node.node-index c.node-item.result
    (omega arith) c.node-item.is c.loop-node.invariant c.in_ok-change_node.ensures.rising c.in_ok-change_node.ensures.value

pub returns-clause-value : goal.returns-clause-value
returns-clause-value g c = all_changed c.args.change c.args.dom.now c.args.nodes.now c.args.self.now c.loop-node.self c.loop-node.node-index (omega arith) c.loop-node.invariant
