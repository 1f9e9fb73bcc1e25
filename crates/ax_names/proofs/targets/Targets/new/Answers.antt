use Rattle.ax_names.proofs.Firsts.{targets_first}
use Rattle.ax_names.proofs.targets.Targets.new.Goals as goal

pub returns : goal.returns
returns g c =
    targets_first c.args.dom.now c.as_slice-node-items.result.now c.in_ok-nodes.nodes c.as_slice-node-items.ensures c.in_ok-nodes.ensures c.loop-node.node-index c.loop-node-test.false c.loop-node.targets c.loop-node.invariant
