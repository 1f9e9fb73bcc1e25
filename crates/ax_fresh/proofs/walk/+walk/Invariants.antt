use Rattle.std.proofs.Common.{◌≡◌, ◌+◌, ◌-◌, ◌*◌, ◌++◌, take}
use Rattle.std.specs.List.{flat_map}
use Rattle.ax_base.specs.Document.{depth}
use Rattle.ax_base.specs.Kids.{taken}
use Rattle.ax_names.specs.Sessions.{AreNamesOf}
use Rattle.ax_fresh.specs.Gathering.{with_records, put_order}
use Rattle.ax_fresh.proofs.walk.+walk.Given as goal

abbrev pub decreases-gather : goal.decreases-gather
decreases-gather g l = 4 * (65 - depth l.dom.now l.node)

abbrev pub decreases-gather_inside : goal.decreases-gather_inside
decreases-gather_inside g l = 4 * (65 - depth l.dom.now l.node) + 1

abbrev pub decreases-put_object : goal.decreases-put_object
decreases-put_object g l = 4 * (65 - depth l.dom.now l.cell.now.id) + 2

abbrev pub decreases-gather_child : goal.decreases-gather_child
decreases-gather_child g l = 4 * (65 - depth l.dom.now l.child) + 3

-- what the children so far give is found, and put in, and what is kept of names is that of the document
abbrev pub invariant-gather-loop-child : goal.invariant-gather-loop-child
invariant-gather-loop-child g l =
    (l.found ≡ l.fn.found ++ flat_map (taken l.dom) (take l.child-index l.child-items))
    × (l.records ≡ with_records l.dom l.fn.records (flat_map (put_order l.dom) (flat_map (taken l.dom) (take l.child-index l.child-items))))
    × AreNamesOf l.dom l.names
