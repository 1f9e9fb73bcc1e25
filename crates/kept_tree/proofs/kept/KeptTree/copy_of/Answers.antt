use Rattle.std.proofs.Common.{sym, subst}
use Rattle.ax_record.specs.ObjectTrees.{IsObjectTree}
use Rattle.kept_tree.proofs.Overlaying.{copied_is}
use Rattle.kept_tree.proofs.kept.KeptTree.copy_of.Goals as goal

pub invariant_of-result : goal.invariant_of-result
invariant_of-result g c = subst IsObjectTree (sym (copied_is (g.T.TreeView.tree c.args.tree.now) c.find-root.ensures.is_tree _ _ _ c.in_ok-ids.ensures c.in_ok-records.ensures c.focus-focus.ensures)) c.find-root.ensures.is_tree

pub returns : goal.returns
returns g c = copied_is (g.T.TreeView.tree c.args.tree.now) c.find-root.ensures.is_tree _ _ _ c.in_ok-ids.ensures c.in_ok-records.ensures c.focus-focus.ensures
