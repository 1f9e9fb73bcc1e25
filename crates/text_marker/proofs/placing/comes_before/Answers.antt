use Rattle.std.proofs.Common.{◌∙◌}
use Rattle.text_marker.proofs.Order.{comes}
use Rattle.text_marker.proofs.placing.comes_before.Goals as goal

pub returns : goal.returns
returns g c = c.precedes.ensures.order ∙ comes (g.T.TreeView.tree c.args.t.now) c.precedes.ensures.is_tree c.args.a c.args.b c.requires.a_text c.requires.b_text
