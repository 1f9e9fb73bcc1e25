use Rattle.std.proofs.Common.{◌≡◌, true, reverse, length}
use Rattle.std.specs.Prelude.{find}
use Rattle.ax_record.specs.Tree.{has_object, parent_of, preorder}
use Rattle.ax_record.specs.Orders.{wanted_at, before}
use Rattle.ax_record.proofs.backward.last_before.Given as goal

-- none between the object at hand and the first one is wanted
abbrev pub invariant-loop-above : goal.invariant-loop-above
invariant-loop-above g l =
    (find (wanted_at (g.T.TreeView.tree l.tree) (g.W.Wanted.wants l.wanted)) (reverse (before l.fn.origin (preorder (g.T.TreeView.tree l.tree))))
    ≡ find (wanted_at (g.T.TreeView.tree l.tree) (g.W.Wanted.wants l.wanted)) (reverse (before l.at (preorder (g.T.TreeView.tree l.tree)))))
    × (has_object (g.T.TreeView.tree l.tree) l.at ≡ true)
    × (l.above ≡ parent_of (g.T.TreeView.tree l.tree) l.at)

abbrev pub decreases-loop-above : goal.decreases-loop-above
decreases-loop-above g l = length (before l.at (preorder (g.T.TreeView.tree l.tree)))
