use Rattle.std.proofs.Common.{◌≡◌, ℕ, List, true, length, string_bytes}
use Rattle.std.specs.Prelude.{Result}
use Rattle.ax_record.specs.Tree.{has_object}
use Rattle.text_order.specs.Texts.{later_texts}
use Rattle.text_marker.specs.declared.errors.MarkError.{MarkError}
use Rattle.text_marker.specs.Ranges.{follow, up_to}
use Rattle.text_marker.specs.Answers.{Pushed}
use Rattle.text_marker.proofs.contents.push_following.Given as goal

-- what adds the texts that are left adds the whole
abbrev pub invariant-loop-next : goal.invariant-loop-next
invariant-loop-next g l =
    ((r : Result ℕ MarkError) (new : List ℕ) → Pushed l.left (follow (g.T.TreeView.tree l.t) l.range.low l.range.high l.at (up_to l.range.high.id (later_texts (g.T.TreeView.tree l.t) l.at))) (string_bytes l.out) new r
    → Pushed l.fn.left (follow (g.T.TreeView.tree l.t) l.range.low l.range.high l.range.low.id (up_to l.range.high.id (later_texts (g.T.TreeView.tree l.t) l.range.low.id))) (string_bytes l.fn.out) new r)
    × (has_object (g.T.TreeView.tree l.t) l.at ≡ true)

abbrev pub decreases-loop-next : goal.decreases-loop-next
decreases-loop-next g l = length (later_texts (g.T.TreeView.tree l.t) l.at)
