use Rattle.std.proofs.Common.{◌≡◌, ◌++◌, true, length, reverse}
use Rattle.std.specs.List.{flat_map}
use Rattle.ax_record.specs.Tree.{has_object}
use Rattle.text_order.specs.Texts.{earlier_texts}
use Rattle.text_marker.specs.Markers.{mark}
use Rattle.text_marker.specs.Lines.{stretch_start, of_text, runs_at}
use Rattle.text_marker.proofs.lines.line_start.Given as goal

-- the line goes back over the texts that are left
abbrev pub invariant-loop-prior : goal.invariant-loop-prior
invariant-loop-prior g l =
    (stretch_start l.fn.line (mark l.fn.id l.fn.first) (reverse (of_text l.fn.id l.fn.front) ++ flat_map (λ n. reverse (runs_at (g.T.TreeView.tree l.t) n)) (earlier_texts (g.T.TreeView.tree l.t) l.fn.id))
    ≡ stretch_start l.line l.start (flat_map (λ n. reverse (runs_at (g.T.TreeView.tree l.t) n)) (earlier_texts (g.T.TreeView.tree l.t) l.at)))
    × (has_object (g.T.TreeView.tree l.t) l.at ≡ true)

abbrev pub decreases-loop-prior : goal.decreases-loop-prior
decreases-loop-prior g l = length (earlier_texts (g.T.TreeView.tree l.t) l.at)
