use Rattle.std.proofs.Common.{◌≡◌, ◌≤◌, length, filter}
use Rattle.std.specs.Prelude.{IfSome}
use Rattle.ax_base.specs.Rects.{IsWithinBounds, AreRunsWithin}
use Rattle.text_marker.specs.Ranges.{shares, widened}
use Rattle.text_marker.proofs.bounds.with_runs.Given as goal

-- the bounds are widened by the runs that are left
abbrev pub invariant-loop-left : goal.invariant-loop-left
invariant-loop-left l =
    (widened l.fn.bounds (filter (shares l.low l.high) l.runs) ≡ widened l.bounds (filter (shares l.low l.high) l.left)) × IfSome l.bounds IsWithinBounds × AreRunsWithin l.left × (length l.left ≤ length l.runs)

abbrev pub decreases-loop-left : goal.decreases-loop-left
decreases-loop-left l = length l.left
