use Rattle.text_marker.proofs.Widening.{bounds_answered}
use Rattle.text_marker.proofs.bounds.range_bounds.Goals as goal

pub returns : goal.returns
returns g c =
    bounds_answered (g.T.TreeView.tree c.args.t.now) c.args.a c.args.b c.in_ok-range.range.low c.in_ok-range.range.high c.bounds_of.result c.in_ok-range.ensures.stand c.in_ok-range.ensures.low c.in_ok-range.ensures.high c.bounds_of.ensures
