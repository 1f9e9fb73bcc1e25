use Rattle.std.proofs.Common.{◌≡◌, ◌++◌, map}
use Rattle.ax_batch.specs.Rising.{by_rising}
use Rattle.ax_batch.specs.Fates.{joint_update, additions}
use Rattle.ax_batch.proofs.merged.update_added.Given as goal

abbrev pub invariant-loop-object : goal.invariant-loop-object
invariant-loop-object l = l.updates.items ++ map (joint_update (by_rising l.fates.entries)) (additions l.object-iterator.rest.items) ≡ l.fn.updates.items ++ map (joint_update (by_rising l.fates.entries)) (additions l.fn.added)
