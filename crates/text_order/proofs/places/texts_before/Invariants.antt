use Rattle.std.proofs.Common.{◌≡◌, ◌+◌, true, length}
use Rattle.ax_record.specs.Tree.{has_object}
use Rattle.text_order.specs.Texts.{earlier_texts}
use Rattle.text_order.proofs.places.texts_before.Given as goal

-- those before the object at hand are not counted yet
abbrev pub invariant-loop-prior : goal.invariant-loop-prior
invariant-loop-prior g l =
    (length (earlier_texts (g.T.TreeView.tree l.t) l.fn.id) ≡ l.count + length (earlier_texts (g.T.TreeView.tree l.t) l.at)) × (has_object (g.T.TreeView.tree l.t) l.at ≡ true)

abbrev pub decreases-loop-prior : goal.decreases-loop-prior
decreases-loop-prior g l = length (earlier_texts (g.T.TreeView.tree l.t) l.at)
