use Rattle.std.proofs.Common.{◌≡◌, ◌++◌, take}
use Rattle.std.specs.List.{flat_map}
use Rattle.ax_record.specs.Tree.{made_at}
use Rattle.ax_batch.specs.Batches.{added_at, changed_at, removed_at}
use Rattle.tree_diff.proofs.batches.push_differing.Given as goal

abbrev pub invariant-loop-id : goal.invariant-loop-id
invariant-loop-id g l = record {
  added : l.batch.added ≡ l.fn.batch.added ++ flat_map (made_at added_at (g.A.TreeView.tree l.a) (g.B.TreeView.tree l.b)) (take l.id-index l.ids);
  changed : l.batch.changed ≡ l.fn.batch.changed ++ flat_map (made_at changed_at (g.A.TreeView.tree l.a) (g.B.TreeView.tree l.b)) (take l.id-index l.ids);
  removed : l.batch.removed ≡ l.fn.batch.removed ++ flat_map (made_at removed_at (g.A.TreeView.tree l.a) (g.B.TreeView.tree l.b)) (take l.id-index l.ids);
  focus : l.batch.focus ≡ l.fn.batch.focus;
}
