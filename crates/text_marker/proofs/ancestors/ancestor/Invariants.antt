use Rattle.std.proofs.Common.{◌≡◌}
use Rattle.text_marker.specs.Ancestors.{ancestor}
use Rattle.text_marker.proofs.ancestors.ancestor.Given as goal

-- so many levels are left above the object at hand
abbrev pub invariant-loop-left : goal.invariant-loop-left
invariant-loop-left g l = ancestor (g.T.TreeView.tree l.t) l.levels l.fn.id ≡ ancestor (g.T.TreeView.tree l.t) l.left l.at

abbrev pub decreases-loop-left : goal.decreases-loop-left
decreases-loop-left g l = l.left
