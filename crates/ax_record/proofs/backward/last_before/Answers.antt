use Rattle.std.proofs.Common.{sym, ◌∙◌}
use Rattle.ax_record.proofs.Climbed.{known, parent_is, above_known, climbs, found_earlier, parent_wanted, none_earlier, none_before}
use Rattle.ax_record.proofs.backward.last_before.Goals as goal

pub returns-in_default-find-clause-found : goal.returns-in_default-find-clause-found
returns-in_default-find-clause-found g c = absurd (above_known (g.T.TreeView.tree c.args.tree.now) c.in-Some.ensures.is_tree c.loop-above.at c.in-Some-above.parent c.loop-above.above c.loop-above.invariant.1 c.loop-above.invariant.2 c.in-Some-above.is c.in_default-find.ensures.value)

pub returns-in-Some-2-clause-found : goal.returns-in-Some-2-clause-found
returns-in-Some-2-clause-found g c =
    found_earlier (g.T.TreeView.tree c.args.tree.now) c.in-Some.ensures.is_tree (g.W.Wanted.wants c.args.wanted.now) c.args.origin c.loop-above.at c.in-Some-above.parent c.in-Some-2.found c.loop-above.above c.in-Some-find.object.now c.as_slice.result.now c.front-earlier.result.now
    c.loop-above.invariant.0 c.loop-above.invariant.1 c.loop-above.invariant.2 c.in-Some-above.is c.in-Some-find.ensures.value c.as_slice.ensures c.front-earlier.ensures (sym c.in-Some-2.is ∙ c.in_ok-found.ensures)

pub returns-then-branch-clause-found : goal.returns-then-branch-clause-found
returns-then-branch-clause-found g c =
    parent_wanted (g.T.TreeView.tree c.args.tree.now) c.in-Some.ensures.is_tree (g.W.Wanted.wants c.args.wanted.now) c.args.origin c.loop-above.at c.in-Some-above.parent c.loop-above.above c.in-Some-find.object.now c.as_slice.result.now c.front-earlier.result.now c.in_ok-is_wanted.field-0
    c.loop-above.invariant.0 c.loop-above.invariant.1 c.loop-above.invariant.2 c.in-Some-above.is c.in-Some-find.ensures.value c.as_slice.ensures c.front-earlier.ensures (sym c.in_default-2.is ∙ c.in_ok-found.ensures) c.in_ok-is_wanted.ensures c.if-branch.true

pub loop-above-smaller : goal.loop-above-smaller
loop-above-smaller g c = climbs (g.T.TreeView.tree c.args.tree.now) c.in-Some.ensures.is_tree c.loop-above.at c.in-Some-above.parent c.loop-above.above c.loop-above.invariant.1 c.loop-above.invariant.2 c.in-Some-above.is

pub loop-above-preserved : goal.loop-above-preserved
loop-above-preserved g c = (
  none_earlier (g.T.TreeView.tree c.args.tree.now) c.in-Some.ensures.is_tree (g.W.Wanted.wants c.args.wanted.now) c.args.origin c.loop-above.at c.in-Some-above.parent c.loop-above.above c.in-Some-find.object.now c.as_slice.result.now c.front-earlier.result.now c.in_ok-is_wanted.field-0
      c.loop-above.invariant.0 c.loop-above.invariant.1 c.loop-above.invariant.2 c.in-Some-above.is c.in-Some-find.ensures.value c.as_slice.ensures c.front-earlier.ensures (sym c.in_default-2.is ∙ c.in_ok-found.ensures) c.in_ok-is_wanted.ensures c.if-branch.false,
  known (g.T.TreeView.tree c.args.tree.now) c.in-Some-above.parent c.in-Some-find.object.now c.in-Some-find.ensures.value,
  parent_is (g.T.TreeView.tree c.args.tree.now) c.in-Some-above.parent c.in-Some-find.object.now c.in-Some-find.ensures.value,
)

pub returns-clause-found : goal.returns-clause-found
returns-clause-found g c = none_before (g.T.TreeView.tree c.args.tree.now) c.in-Some.ensures.is_tree (g.W.Wanted.wants c.args.wanted.now) c.args.origin c.loop-above.at c.loop-above.above c.loop-above.invariant.0 c.loop-above.invariant.1 c.loop-above.invariant.2 c.in_default-above.is

pub is_wanted-requires : goal.is_wanted-requires
is_wanted-requires g c = c.in-Some-find.ensures.is_tree.within c.in-Some-above.parent c.in-Some-find.object.now (sym c.in-Some-find.ensures.value)
