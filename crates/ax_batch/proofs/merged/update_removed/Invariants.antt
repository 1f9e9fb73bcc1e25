use Rattle.std.proofs.Common.{◌≡◌, ◌++◌, map}
use Rattle.ax_batch.specs.Rising.{by_rising}
use Rattle.ax_batch.specs.Fates.{joint_update, removals}
use Rattle.ax_batch.proofs.merged.update_removed.Given as goal

abbrev pub invariant-loop-id : goal.invariant-loop-id
invariant-loop-id l = l.updates.items ++ map (joint_update (by_rising l.fates.entries)) (removals l.id-iterator.rest.items) ≡ l.fn.updates.items ++ map (joint_update (by_rising l.fates.entries)) (removals l.fn.removed)
