use Rattle.ax_batch.proofs.Chains.{between_in_order, between_fits}
use Rattle.ax_batch.proofs.merged.batch_is_in_order.Goals as goal

pub returns : goal.returns
returns g c = record {
  order = between_in_order (g.A.TreeView.tree c.args.a.now) (g.B.TreeView.tree c.args.b.now) c.find-from.ensures.is_tree c.find-to.ensures.is_tree;
  fits = between_fits (g.A.TreeView.tree c.args.a.now) (g.B.TreeView.tree c.args.b.now) c.find-from.ensures.is_tree c.find-to.ensures.is_tree;
}
