use Rattle.dom_ids.proofs.Renewed.{index_rises, nodes_right, renewed}
use Rattle.dom_ids.proofs.index.IdIndex.renew.Goals as goal

pub change_nodes-requires : goal.change_nodes-requires
change_nodes-requires g c = record { rising = index_rises c.args.old.now c.requires.follows.hangs.was_tree c.args.self c.requires.index }

pub settle_nodes-requires : goal.settle_nodes-requires
settle_nodes-requires g c = record {
  tree = c.requires.follows.hangs.is_tree;
  nodes = nodes_right c.args.old.now c.args.now.now c.args.gone.now c.args.come.now c.args.moved.now c.requires.follows c.args.self c.change_nodes.new.self c.change_nodes-2.new.self c.requires.index
      c.in_ok-change_nodes.ensures.value c.in_ok-change_nodes-2.ensures.value c.in_ok-change_nodes-2.ensures.rising;
}

pub returns : goal.returns
returns g c = renewed c.args.old.now c.args.now.now c.args.gone.now c.args.come.now c.args.moved.now c.requires.follows c.args.self c.change_nodes.new.self c.change_nodes-2.new.self c.requires.index
    c.in_ok-change_nodes.ensures.value c.in_ok-change_nodes-2.ensures.value c.in_ok-change_nodes-2.ensures.rising
    c.settle_nodes.new.self c.settle_nodes-2.new.self c.settle_nodes-3.new.self c.in_ok-settle_nodes.ensures.settled c.in_ok-settle_nodes-2.ensures.settled c.in_ok-settle_nodes-3.ensures.settled
