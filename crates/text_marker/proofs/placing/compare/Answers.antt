use Rattle.text_marker.proofs.Order.{answered_two}
use Rattle.text_marker.proofs.Texts.{both_accepted, accepted_text}
use Rattle.text_marker.proofs.placing.compare.Goals as goal

pub placing_of-requires : goal.placing_of-requires
placing_of-requires g c =
    let both = both_accepted (g.T.TreeView.tree c.args.t.now) c.args.a c.args.b c.in_ok-both_stand.ensures.stand in
    record { a_text = accepted_text (g.T.TreeView.tree c.args.t.now) c.args.a both.0; b_text = accepted_text (g.T.TreeView.tree c.args.t.now) c.args.b both.1; is_tree = c.both_stand.ensures.is_tree }

pub returns : goal.returns
returns g c = answered_two (g.T.TreeView.tree c.args.t.now) c.args.a c.args.b c.placing_of.result c.in_ok-both_stand.ensures.stand c.placing_of.ensures
