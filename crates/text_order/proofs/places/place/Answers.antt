use Rattle.text_order.proofs.Counting.{place_told, no_place, no_object}
use Rattle.text_order.proofs.places.place.Goals as goal

pub returns-in_default : goal.returns-in_default
returns-in_default g c = no_object (g.T.TreeView.tree c.args.t.now) c.args.id c.in_default.ensures.value

pub returns-then-is_some : goal.returns-then-is_some
returns-then-is_some g c = place_told (g.T.TreeView.tree c.args.t.now) c.in-Some.ensures.is_tree c.args.id c.in-Some.object.now c.is_some.result c.texts_before.result c.in-Some.ensures.value c.is_some.ensures c.if-is_some.true c.texts_before.ensures

pub returns : goal.returns
returns g c = no_place (g.T.TreeView.tree c.args.t.now) c.args.id c.in-Some.object.now c.is_some.result c.in-Some.ensures.value c.is_some.ensures c.if-is_some.false
