use Rattle.tree_diff.proofs.Losing.{lost_among}
use Rattle.tree_diff.proofs.places.push_lost_below.Goals as goal

pub returns : goal.returns
returns g c =
    lost_among (g.T.TreeView.tree c.args.before.now) c.args.now.now c.args.id c.kids_before-was.result.now c.kids_now.result.now _ _ c.kids_before-was.ensures.value c.differing-start.ensures c.kids_now.ensures
    c.args.out.now c.push_given_of.new.out c.in_ok-push_given_of.ensures
