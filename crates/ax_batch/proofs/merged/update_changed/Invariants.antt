use Rattle.std.proofs.Common.{◌≡◌, ◌++◌, map}
use Rattle.ax_batch.specs.Rising.{by_rising}
use Rattle.ax_batch.specs.Fates.{joint_update, changes}
use Rattle.ax_batch.proofs.merged.update_changed.Given as goal

abbrev pub invariant-loop-change : goal.invariant-loop-change
invariant-loop-change l = l.updates.items ++ map (joint_update (by_rising l.fates.entries)) (changes l.change-iterator.rest.items) ≡ l.fn.updates.items ++ map (joint_update (by_rising l.fates.entries)) (changes l.fn.changed)
