use Rattle.tree_diff.proofs.Moving.{between}
use Rattle.tree_diff.proofs.moved.moved_kids.Goals as goal

pub returns : goal.returns
returns g c =
    between (g.T.TreeView.tree c.args.before.now) c.kids_before.ensures.is_tree c.args.nodes.now c.args.above c.args.hung.now c.kids_before.result.now _ _ c.kids_before.ensures.value c.differing-start.ensures
    c.new-kids.result c.push_moved.new.out c.new-kids.ensures c.in_ok-push_moved.ensures
