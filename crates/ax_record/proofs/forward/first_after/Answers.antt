use Rattle.std.proofs.Common.{sym, ◌∙◌}
use Rattle.ax_record.proofs.Climbed.{known, parent_is, above_known, climbs, below_origin, past_origin, found_later, none_later, none_past}
use Rattle.ax_record.proofs.forward.first_after.Goals as goal

pub returns-in-Some-2-clause-found : goal.returns-in-Some-2-clause-found
returns-in-Some-2-clause-found g c =
    below_origin (g.T.TreeView.tree c.args.tree.now) c.in-Some.ensures.is_tree (g.W.Wanted.wants c.args.wanted.now) c.args.origin c.in-Some-2.found c.in-Some.object.now c.as_slice.result.now
    c.in-Some.ensures.value c.as_slice.ensures (sym c.in-Some-2.is ∙ c.in_ok-found.ensures)

pub loop-above-init : goal.loop-above-init
loop-above-init g c = (
  past_origin (g.T.TreeView.tree c.args.tree.now) c.in-Some.ensures.is_tree (g.W.Wanted.wants c.args.wanted.now) c.args.origin c.in-Some.object.now c.as_slice.result.now
      c.in-Some.ensures.value c.as_slice.ensures (sym c.in_default-2.is ∙ c.in_ok-found.ensures),
  known (g.T.TreeView.tree c.args.tree.now) c.args.origin c.in-Some.object.now c.in-Some.ensures.value,
  parent_is (g.T.TreeView.tree c.args.tree.now) c.args.origin c.in-Some.object.now c.in-Some.ensures.value,
)

pub returns-in_default-find-clause-found : goal.returns-in_default-find-clause-found
returns-in_default-find-clause-found g c = absurd (above_known (g.T.TreeView.tree c.args.tree.now) c.in-Some.ensures.is_tree c.loop-above.at c.in-Some-above.parent c.loop-above.above c.loop-above.invariant.1 c.loop-above.invariant.2 c.in-Some-above.is c.in_default-find.ensures.value)

pub returns-in-Some-3-clause-found : goal.returns-in-Some-3-clause-found
returns-in-Some-3-clause-found g c =
    found_later (g.T.TreeView.tree c.args.tree.now) c.in-Some.ensures.is_tree (g.W.Wanted.wants c.args.wanted.now) c.args.origin c.loop-above.at c.in-Some-above.parent c.in-Some-3.found c.loop-above.above c.in-Some-find.object.now c.as_slice-in-Some-above.result.now c.past-later.result.now
    c.loop-above.invariant.0 c.loop-above.invariant.1 c.loop-above.invariant.2 c.in-Some-above.is c.in-Some-find.ensures.value c.as_slice-in-Some-above.ensures c.past-later.ensures (sym c.in-Some-3.is ∙ c.in_ok-found-2.ensures)

pub loop-above-smaller : goal.loop-above-smaller
loop-above-smaller g c = climbs (g.T.TreeView.tree c.args.tree.now) c.in-Some.ensures.is_tree c.loop-above.at c.in-Some-above.parent c.loop-above.above c.loop-above.invariant.1 c.loop-above.invariant.2 c.in-Some-above.is

pub loop-above-preserved : goal.loop-above-preserved
loop-above-preserved g c = (
  none_later (g.T.TreeView.tree c.args.tree.now) c.in-Some.ensures.is_tree (g.W.Wanted.wants c.args.wanted.now) c.args.origin c.loop-above.at c.in-Some-above.parent c.loop-above.above c.in-Some-find.object.now c.as_slice-in-Some-above.result.now c.past-later.result.now
      c.loop-above.invariant.0 c.loop-above.invariant.1 c.loop-above.invariant.2 c.in-Some-above.is c.in-Some-find.ensures.value c.as_slice-in-Some-above.ensures c.past-later.ensures (sym c.in_default-3.is ∙ c.in_ok-found-2.ensures),
  known (g.T.TreeView.tree c.args.tree.now) c.in-Some-above.parent c.in-Some-find.object.now c.in-Some-find.ensures.value,
  parent_is (g.T.TreeView.tree c.args.tree.now) c.in-Some-above.parent c.in-Some-find.object.now c.in-Some-find.ensures.value,
)

pub returns-clause-found : goal.returns-clause-found
returns-clause-found g c = none_past (g.T.TreeView.tree c.args.tree.now) c.in-Some.ensures.is_tree (g.W.Wanted.wants c.args.wanted.now) c.args.origin c.loop-above.at c.loop-above.above c.loop-above.invariant.0 c.loop-above.invariant.1 c.loop-above.invariant.2 c.in_default-above.is
