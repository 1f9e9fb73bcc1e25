use Rattle.std.proofs.Common.{◌≡◌, true, length}
use Rattle.std.specs.Prelude.{find}
use Rattle.ax_record.specs.Tree.{has_object, parent_of, preorder}
use Rattle.ax_record.specs.Orders.{wanted_at, after, before}
use Rattle.ax_record.proofs.Past.{past}
use Rattle.ax_record.proofs.forward.first_after.Given as goal

-- none is wanted of those between the first object and what is past the one at hand
abbrev pub invariant-loop-above : goal.invariant-loop-above
invariant-loop-above g l =
    (find (wanted_at (g.T.TreeView.tree l.tree) (g.W.Wanted.wants l.wanted)) (after l.fn.origin (preorder (g.T.TreeView.tree l.tree)))
    ≡ find (wanted_at (g.T.TreeView.tree l.tree) (g.W.Wanted.wants l.wanted)) (past (g.T.TreeView.tree l.tree) l.at))
    × (has_object (g.T.TreeView.tree l.tree) l.at ≡ true)
    × (l.above ≡ parent_of (g.T.TreeView.tree l.tree) l.at)

-- climbing leaves fewer objects before the one at hand
abbrev pub decreases-loop-above : goal.decreases-loop-above
decreases-loop-above g l = length (before l.at (preorder (g.T.TreeView.tree l.tree)))
