use Rattle.std.proofs.Common.{◌≡◌, ◌+◌, true}
use Rattle.ax_record.specs.Tree.{has_object}
use Rattle.text_marker.specs.Ancestors.{depth}
use Rattle.text_marker.proofs.ancestors.depth.Given as goal

-- the ancestors of the object at hand are not counted yet
abbrev pub invariant-loop-parent : goal.invariant-loop-parent
invariant-loop-parent g l = (depth (g.T.TreeView.tree l.t) l.fn.id ≡ l.count + depth (g.T.TreeView.tree l.t) l.at) × (has_object (g.T.TreeView.tree l.t) l.at ≡ true)

abbrev pub decreases-loop-parent : goal.decreases-loop-parent
decreases-loop-parent g l = depth (g.T.TreeView.tree l.t) l.at
