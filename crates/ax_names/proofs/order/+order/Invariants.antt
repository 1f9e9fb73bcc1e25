use Rattle.std.proofs.Common.{◌≡◌, ◌-◌, ◌++◌, take}
use Rattle.std.specs.List.{flat_map}
use Rattle.ax_base.specs.Document.{depth}
use Rattle.ax_dom.specs.Subtrees.{subtree}
use Rattle.ax_names.proofs.order.+order.Given as goal

abbrev pub decreases-put_node : goal.decreases-put_node
decreases-put_node g l = 65 - depth l.dom.now l.id

-- what is below the children so far was added
abbrev pub invariant-loop-child : goal.invariant-loop-child
invariant-loop-child g l = l.nodes ≡ l.initial.nodes ++ flat_map (subtree l.dom) (take l.child-index l.child-items)
