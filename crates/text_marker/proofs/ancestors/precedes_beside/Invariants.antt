use Rattle.std.proofs.Common.{◌≡◌, eqb, true, false, nat_lt}
use Rattle.ax_record.specs.Tree.{has_object}
use Rattle.text_marker.specs.Ancestors.{depth}
use Rattle.text_marker.proofs.Branches.{spot}
use Rattle.text_marker.proofs.ancestors.precedes_beside.Given as goal

-- the two at hand differ, are as deep as one another, and come in the order of those that are asked about
abbrev pub invariant-loop-parent : goal.invariant-loop-parent
invariant-loop-parent g l =
    (has_object (g.T.TreeView.tree l.t) l.left ≡ true)
    × (has_object (g.T.TreeView.tree l.t) l.right ≡ true)
    × (depth (g.T.TreeView.tree l.t) l.left ≡ depth (g.T.TreeView.tree l.t) l.right)
    × (eqb l.left l.right ≡ false)
    × (nat_lt (spot (g.T.TreeView.tree l.t) l.fn.one) (spot (g.T.TreeView.tree l.t) l.fn.other) ≡ nat_lt (spot (g.T.TreeView.tree l.t) l.left) (spot (g.T.TreeView.tree l.t) l.right))

abbrev pub decreases-loop-parent : goal.decreases-loop-parent
decreases-loop-parent g l = depth (g.T.TreeView.tree l.t) l.left
