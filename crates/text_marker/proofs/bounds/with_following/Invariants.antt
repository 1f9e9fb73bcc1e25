use Rattle.std.proofs.Common.{◌≡◌, true, length}
use Rattle.std.specs.Prelude.{IfSome}
use Rattle.std.specs.List.{flat_map}
use Rattle.ax_base.specs.Rects.{IsWithinBounds}
use Rattle.ax_record.specs.Tree.{has_object}
use Rattle.text_order.specs.Texts.{later_texts}
use Rattle.text_marker.specs.Ranges.{range_runs, up_to, widened}
use Rattle.text_marker.proofs.bounds.with_following.Given as goal

-- the bounds are widened by the texts that are left
abbrev pub invariant-loop-next : goal.invariant-loop-next
invariant-loop-next g l =
    (widened l.fn.bounds (flat_map (range_runs (g.T.TreeView.tree l.t) l.range.low l.range.high) (up_to l.range.high.id (later_texts (g.T.TreeView.tree l.t) l.range.low.id)))
    ≡ widened l.bounds (flat_map (range_runs (g.T.TreeView.tree l.t) l.range.low l.range.high) (up_to l.range.high.id (later_texts (g.T.TreeView.tree l.t) l.at))))
    × IfSome l.bounds IsWithinBounds × (has_object (g.T.TreeView.tree l.t) l.at ≡ true)

abbrev pub decreases-loop-next : goal.decreases-loop-next
decreases-loop-next g l = length (later_texts (g.T.TreeView.tree l.t) l.at)
