use Rattle.ax_batch.proofs.Chains.{merged_patches}
use Rattle.ax_batch.proofs.merged.merge_patches.Goals as goal

pub returns : goal.returns
returns g c = merged_patches (g.T.TreeView.tree c.args.t.now) c.args.first.now c.args.second.now c.find-root.ensures.is_tree c.requires.first c.requires.second c.requires.fits
