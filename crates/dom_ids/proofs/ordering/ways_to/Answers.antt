use Rattle.std.proofs.Common.{sym, subst, take, arith}
use Rattle.dom_ids.specs.Ordering.{AreWaysTo}
use Rattle.dom_ids.proofs.Climbing.{no_ways, more_ways, all_ways}
use Rattle.dom_ids.proofs.ordering.ways_to.Goals as goal

pub loop-node-init : goal.loop-node-init
loop-node-init g c = subst (AreWaysTo c.args.dom.now (take 0 c.args.nodes.now)) (sym c.new-ways.ensures) (no_ways c.args.dom.now c.args.nodes.now)

pub climb-requires : goal.climb-requires
climb-requires g c = record { tree = c.requires.tree; closed = c.loop-node.invariant.closed }

pub loop-node-preserved : goal.loop-node-preserved
loop-node-preserved g c =
    more_ways c.args.dom.now c.args.nodes.now c.loop-node.node-index c.node-item.result c.loop-node.ways c.climb.new.self (omega arith) c.node-item.is c.loop-node.invariant
    c.in_ok-climb.ensures.closed c.in_ok-climb.ensures.added c.in_ok-climb.ensures.keeps

pub returns : goal.returns
returns g c = all_ways c.args.dom.now c.args.nodes.now c.loop-node.node-index c.loop-node.ways (omega arith) c.loop-node.invariant
