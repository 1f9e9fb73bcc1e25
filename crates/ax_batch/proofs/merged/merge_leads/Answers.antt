use Rattle.ax_batch.proofs.Chains.{merged_leads}
use Rattle.ax_batch.proofs.merged.merge_leads.Goals as goal

pub returns : goal.returns
returns g c = merged_leads (g.A.TreeView.tree c.args.a.now) (g.B.TreeView.tree c.args.b.now) (g.C.TreeView.tree c.args.c.now) c.find-first.ensures.is_tree c.find-second.ensures.is_tree c.find-third.ensures.is_tree
