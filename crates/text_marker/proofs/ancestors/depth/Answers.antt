use Rattle.std.proofs.Common.{◌+◌, refl, arith}
use Rattle.text_marker.proofs.Climbing.{parent_known, climbs, one_more, still_few, all_counted}
use Rattle.text_marker.proofs.ancestors.depth.Goals as goal

pub overflow_add-count : goal.overflow_add-count
overflow_add-count g c =
    let few = still_few (g.T.TreeView.tree c.args.t.now) c.parent_of.ensures.is_tree c.args.id c.loop-parent.at c.in-Some.parent c.loop-parent.count c.loop-parent.invariant.1 c.in-Some.ensures.value c.loop-parent.invariant.0 in
    omega arith

pub loop-parent-smaller : goal.loop-parent-smaller
loop-parent-smaller g c = climbs (g.T.TreeView.tree c.args.t.now) c.parent_of.ensures.is_tree c.loop-parent.at c.in-Some.parent c.loop-parent.invariant.1 c.in-Some.ensures.value

pub loop-parent-preserved : goal.loop-parent-preserved
loop-parent-preserved g c = (
  one_more (g.T.TreeView.tree c.args.t.now) c.parent_of.ensures.is_tree c.args.id c.loop-parent.at c.in-Some.parent c.loop-parent.count (c.loop-parent.count + 1) c.loop-parent.invariant.1 c.in-Some.ensures.value refl c.loop-parent.invariant.0,
  parent_known (g.T.TreeView.tree c.args.t.now) c.parent_of.ensures.is_tree c.loop-parent.at c.in-Some.parent c.loop-parent.invariant.1 c.in-Some.ensures.value,
)

pub returns-clause-deep : goal.returns-clause-deep
returns-clause-deep g c = all_counted (g.T.TreeView.tree c.args.t.now) c.parent_of.ensures.is_tree c.args.id c.loop-parent.at c.loop-parent.count c.in_default.ensures.value c.loop-parent.invariant.0
