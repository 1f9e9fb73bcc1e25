use Rattle.std.proofs.Common.{◌≡◌, true, length}
use Rattle.std.specs.Prelude.{find}
use Rattle.std.specs.List.{flat_map}
use Rattle.ax_record.specs.Tree.{has_object}
use Rattle.text_order.specs.Texts.{later_texts}
use Rattle.text_marker.specs.Markers.{stops_at, begins_word}
use Rattle.text_marker.proofs.moves.word_behind.Given as goal

-- the first one is one of the texts that are left
abbrev pub invariant-loop-next : goal.invariant-loop-next
invariant-loop-next g l =
    (find (begins_word (g.T.TreeView.tree l.t)) (flat_map (stops_at (g.T.TreeView.tree l.t)) (later_texts (g.T.TreeView.tree l.t) l.fn.id))
    ≡ find (begins_word (g.T.TreeView.tree l.t)) (flat_map (stops_at (g.T.TreeView.tree l.t)) (later_texts (g.T.TreeView.tree l.t) l.at)))
    × (has_object (g.T.TreeView.tree l.t) l.at ≡ true)

abbrev pub decreases-loop-next : goal.decreases-loop-next
decreases-loop-next g l = length (later_texts (g.T.TreeView.tree l.t) l.at)
