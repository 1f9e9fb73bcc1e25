use Rattle.std.proofs.Common.{◌++◌, ap, ◌∙◌}
use Rattle.tree_diff.proofs.Covering.{gathered_from, candidates_differ, candidates_told}
use Rattle.tree_diff.proofs.places.candidates.Goals as goal

pub returns : goal.returns
returns g c =
    let sorted = gathered_from (g.T.TreeView.tree c.args.before.now) c.args.now.now c.args.nodes.now c.args.moved c.push_lost_of.new.out c.push_all.new.out c.sorted_once-sorted.result c.requires.moved (c.in_ok-push_lost_of.ensures ∙ ap (λ l. c.args.moved ++ l) c.requires.gone) c.in_ok-push_all.ensures c.sorted_once-sorted.ensures in
    record {
      value = sorted;
      differ = candidates_differ (g.T.TreeView.tree c.args.before.now) c.args.now.now c.keeps_tree.ensures.tree c.args.nodes.now c.sorted_once-sorted.result c.requires.closed sorted;
      told = candidates_told (g.T.TreeView.tree c.args.before.now) c.args.now.now c.keeps_tree.ensures.tree c.args.nodes.now c.sorted_once-sorted.result c.requires.closed sorted;
    }
