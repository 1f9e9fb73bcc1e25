use Rattle.std.proofs.Common.{◌≡◌, ◌+◌, ◌-◌, ◌*◌, take}
use Rattle.std.specs.List.{flat_map}
use Rattle.ax_base.specs.Document.{depth}
use Rattle.ax_base.specs.Said.{child_text}
use Rattle.ax_names.proofs.name_from_content.+content.Given as goal

abbrev pub decreases-said_by_children : goal.decreases-said_by_children
decreases-said_by_children g l = 5 * (65 - depth l.dom.now l.id)

abbrev pub decreases-said_below : goal.decreases-said_below
decreases-said_below g l = 5 * (65 - depth l.dom.now l.id) + 1

abbrev pub decreases-said_by_element : goal.decreases-said_by_element
decreases-said_by_element g l = 5 * (65 - depth l.dom.now l.id) + 2

abbrev pub decreases-said_by_cell : goal.decreases-said_by_cell
decreases-said_by_cell g l = 5 * (65 - depth l.dom.now l.cell.now.id) + 3

abbrev pub decreases-said_by_child : goal.decreases-said_by_child
decreases-said_by_child g l = 5 * (65 - depth l.dom.now l.child) + 4

-- what is gathered of what the children so far say
abbrev pub invariant-said_by_children-loop-child : goal.invariant-said_by_children-loop-child
invariant-said_by_children-loop-child g l =
    (l.joined ≡ g.G.Gather.of (flat_map (child_text l.dom g.S.Scope.leaves_out (g.S.Scope.says l.dom)) (take l.child-index l.child-items))) × g.S.Scope.keeps l.dom l.scope
