use Rattle.std.proofs.Common.{◌≡◌, ◌-◌, ◌++◌, take}
use Rattle.std.specs.List.{flat_map}
use Rattle.ax_base.specs.Document.{depth}
use Rattle.ax_dom.specs.Subtrees.{subtree}
use Rattle.ax_dom.proofs.dom.Dom.+push_subtree.Given as goal

-- how many levels may still be below the node
abbrev pub decreases-push_subtree : goal.decreases-push_subtree
decreases-push_subtree l = 65 - depth l.self.now l.id

-- the subtrees of the children so far were added
abbrev pub invariant-loop-child : goal.invariant-loop-child
invariant-loop-child l = l.out ≡ l.initial.out ++ flat_map (subtree l.self) (take l.child-index l.child-items)
