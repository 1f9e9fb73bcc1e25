use Rattle.std.proofs.Common.{sym, ◌∙◌}
use Rattle.text_marker.proofs.Widening.{bounds_one, bounds_more}
use Rattle.text_marker.proofs.bounds.bounds_of.Goals as goal

pub returns-then-eq : goal.returns-then-eq
returns-then-eq g c = bounds_one (g.T.TreeView.tree c.args.t.now) c.args.range.now.low c.args.range.now.high c.with_text-bounds.result c.with_text-bounds.ensures.all (sym c.eq.ensures ∙ c.if-eq.true)

pub returns : goal.returns
returns g c =
    bounds_more (g.T.TreeView.tree c.args.t.now) c.args.range.now.low c.args.range.now.high c.with_text-bounds.result c.with_text-bounds.ensures.all c.with_following.result (sym c.eq.ensures ∙ c.if-eq.false) c.with_following.ensures
