use Rattle.std.proofs.Common.{◌≡◌, ◌++◌, length}
use Rattle.std.specs.Map.{keys_of}
use Rattle.ax_batch.specs.Rising.{by_rising}
use Rattle.ax_batch.specs.Rooms.{HasListRoom}
use Rattle.ax_batch.specs.Fates.{made_by, added_by, changed_by, removed_by}
use Rattle.ax_batch.proofs.Splitting.{left_by}
use Rattle.ax_batch.proofs.merged.move_all.Given as goal

abbrev pub invariant-loop-id : goal.invariant-loop-id
invariant-loop-id l = record {
  keys : keys_of (by_rising l.fates.entries) ≡ l.id-iterator.rest.items;
  room : HasListRoom (length l.id-iterator.rest.items) l.added l.changed l.removed;
  added : l.added.0 ++ left_by added_by (by_rising l.fates.entries) l.id-iterator.rest.items ≡ l.fn.added.0 ++ made_by added_by (by_rising l.fn.fates.entries);
  changed : l.changed.0 ++ left_by changed_by (by_rising l.fates.entries) l.id-iterator.rest.items ≡ l.fn.changed.0 ++ made_by changed_by (by_rising l.fn.fates.entries);
  removed : l.removed.0 ++ left_by removed_by (by_rising l.fates.entries) l.id-iterator.rest.items ≡ l.fn.removed.0 ++ made_by removed_by (by_rising l.fn.fates.entries);
}
