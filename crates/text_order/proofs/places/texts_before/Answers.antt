use Rattle.std.proofs.Common.{◌+◌, ◌≤◌, refl, arith}
use Rattle.text_order.proofs.Counting.{one_more, still_few, all_counted}
use Rattle.text_order.proofs.places.texts_before.Goals as goal

pub overflow_add-count : goal.overflow_add-count
overflow_add-count g c =
    let few = still_few (g.T.TreeView.tree c.args.t.now) c.requires.is_tree c.args.id c.loop-prior.at c.in-Some.prior c.loop-prior.count c.in-Some.ensures.going c.loop-prior.invariant.0 in
    omega arith

pub loop-prior-preserved : goal.loop-prior-preserved
loop-prior-preserved g c = (
  one_more (g.T.TreeView.tree c.args.t.now) c.args.id c.loop-prior.at c.in-Some.prior c.loop-prior.count (c.loop-prior.count + 1) c.in-Some.ensures.going refl c.loop-prior.invariant.0,
  c.in-Some.ensures.known,
)

pub returns : goal.returns
returns g c = all_counted (g.T.TreeView.tree c.args.t.now) c.args.id c.loop-prior.at c.loop-prior.count c.in_default.ensures.going c.loop-prior.invariant.0
