use Rattle.std.proofs.Common.{◌≡◌, ◌≤◌, ℕ, List, ◌++◌, length, reverse, take}
use Rattle.ax_base.specs.declared.rect.Run.{Run}
use Rattle.text_marker.specs.Lines.{stretch_start, of_text}
use Rattle.text_marker.proofs.lines.go_back.Given as goal

-- the line goes back over the runs that are left
abbrev pub invariant-loop-left : goal.invariant-loop-left
invariant-loop-left l =
    ((more : List (ℕ × Run)) → stretch_start l.line l.fn.start (reverse (of_text l.id l.runs) ++ more) ≡ stretch_start l.line l.start (reverse (of_text l.id (take l.left l.runs)) ++ more))
    × (l.left ≤ length l.runs)

abbrev pub decreases-loop-left : goal.decreases-loop-left
decreases-loop-left l = l.left
