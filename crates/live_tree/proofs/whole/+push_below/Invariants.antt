use Rattle.std.proofs.Common.{◌≡◌, ◌-◌, ◌++◌, take}
use Rattle.std.specs.List.{flat_map}
use Rattle.ax_base.specs.Document.{depth}
use Rattle.ax_dom.specs.Subtrees.{subtree}
use Rattle.live_tree.proofs.whole.+push_below.Given as goal

-- how many levels may still be below the node
abbrev pub decreases-push_below : goal.decreases-push_below
decreases-push_below g l = 65 - depth l.dom.now l.id

-- the subtrees of the children so far were added
abbrev pub invariant-loop-child : goal.invariant-loop-child
invariant-loop-child g l = l.nodes ≡ l.initial.nodes ++ flat_map (subtree l.dom) (take l.child-index l.child-items)
