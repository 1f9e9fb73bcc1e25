use Rattle.std.proofs.Common.{sym, ◌∙◌}
use Rattle.text_marker.proofs.Order.{other_after, own_after}
use Rattle.text_marker.proofs.placing.placing_of.Goals.{else-eq-via-then-eq+else-a-b, else-eq-via-else-eq}
use Rattle.text_marker.proofs.placing.placing_of.Goals as goal

pub returns : goal.returns
returns g c = elim c.else-eq.branch [
  | else-eq-via-then-eq+else-a-b w ↦ own_after (g.T.TreeView.tree c.args.t.now) c.args.a c.args.b (sym c.is_below.ensures ∙ c.if-is_below.false) (sym c.eq.ensures ∙ w.if-eq.true) w.if-a-b.false
  | else-eq-via-else-eq w ↦ other_after (g.T.TreeView.tree c.args.t.now) c.requires.is_tree c.args.a c.args.b c.requires.a_text c.requires.b_text (sym c.is_below.ensures ∙ c.if-is_below.false) (sym c.eq.ensures ∙ w.if-eq.false)
]
