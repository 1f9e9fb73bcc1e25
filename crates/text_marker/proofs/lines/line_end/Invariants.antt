use Rattle.std.proofs.Common.{◌≡◌, ◌++◌, true, length}
use Rattle.std.specs.List.{flat_map}
use Rattle.ax_record.specs.Tree.{has_object}
use Rattle.text_order.specs.Texts.{later_texts}
use Rattle.text_marker.specs.Markers.{mark}
use Rattle.text_marker.specs.Lines.{stretch_end, of_text, runs_at}
use Rattle.text_marker.proofs.lines.line_end.Given as goal

-- the line goes on with the texts that are left
abbrev pub invariant-loop-next : goal.invariant-loop-next
invariant-loop-next g l =
    (stretch_end l.fn.line (mark l.fn.id l.fn.past) (of_text l.fn.id l.fn.rest ++ flat_map (runs_at (g.T.TreeView.tree l.t)) (later_texts (g.T.TreeView.tree l.t) l.fn.id))
    ≡ stretch_end l.line l.end (flat_map (runs_at (g.T.TreeView.tree l.t)) (later_texts (g.T.TreeView.tree l.t) l.at)))
    × (has_object (g.T.TreeView.tree l.t) l.at ≡ true)

abbrev pub decreases-loop-next : goal.decreases-loop-next
decreases-loop-next g l = length (later_texts (g.T.TreeView.tree l.t) l.at)
