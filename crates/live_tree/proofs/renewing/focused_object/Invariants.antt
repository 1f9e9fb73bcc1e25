use Rattle.std.proofs.Common.{◌≡◌, ◌≤◌, ◌+◌, length}
use Rattle.std.specs.Prelude.{find}
use Rattle.ax_base.specs.Document.{lineage, depth}
use Rattle.ax_record.specs.Records.{is_object, focused_object}
use Rattle.live_tree.proofs.renewing.focused_object.Given as goal

-- the nearest object from the node at hand on is the one that has the focus, and one read is left for each node up from there
abbrev pub invariant-up : goal.invariant-up
invariant-up g l = record {
  value : find (is_object l.dom) (lineage l.dom l.at) ≡ focused_object l.dom;
  counted : l.steps + (depth l.dom l.at + 1) ≤ l.fn.steps + length l.nodes;
}

abbrev pub decreases-up : goal.decreases-up
decreases-up g l = depth l.dom l.at
