use Rattle.std.proofs.Common.{refl, arith}
use Rattle.dom_ids.proofs.Settled.{more_settled, all_settled}
use Rattle.dom_ids.proofs.index.IdIndex.settle_nodes.Goals as goal

pub loop-node-init : goal.loop-node-init
loop-node-init g c = record { nodes = c.requires.nodes; settled = λ x. refl }

pub settle_node-requires : goal.settle_node-requires
settle_node-requires g c = record { tree = c.requires.tree; nodes = c.loop-node.invariant.nodes }

pub loop-node-preserved : goal.loop-node-preserved
loop-node-preserved g c =
    more_settled c.args.dom.now c.args.home.now c.args.nodes.now c.args.self.now c.loop-node.self c.settle_node.new.self c.loop-node.node-index c.node-item.result
    (omega arith) c.node-item.is c.loop-node.invariant c.in_ok-settle_node.ensures.nodes c.in_ok-settle_node.ensures.settled

pub returns-clause-nodes : goal.returns-clause-nodes
returns-clause-nodes g c = c.loop-node.invariant.nodes

pub returns-clause-settled : goal.returns-clause-settled
returns-clause-settled g c = all_settled c.args.dom.now c.args.home.now c.args.nodes.now c.args.self.now c.loop-node.self c.loop-node.node-index (omega arith) c.loop-node.invariant
