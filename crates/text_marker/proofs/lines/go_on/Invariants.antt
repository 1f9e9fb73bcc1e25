use Rattle.std.proofs.Common.{◌≡◌, ℕ, List, ◌++◌, length}
use Rattle.ax_base.specs.declared.rect.Run.{Run}
use Rattle.text_marker.specs.Lines.{stretch_end, of_text}
use Rattle.text_marker.proofs.lines.go_on.Given as goal

-- the line goes on with the runs that are left
abbrev pub invariant-loop-left : goal.invariant-loop-left
invariant-loop-left l = (more : List (ℕ × Run)) → stretch_end l.line l.fn.end (of_text l.id l.runs ++ more) ≡ stretch_end l.line l.end (of_text l.id l.left ++ more)

abbrev pub decreases-loop-left : goal.decreases-loop-left
decreases-loop-left l = length l.left
