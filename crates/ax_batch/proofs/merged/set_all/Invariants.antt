use Rattle.std.proofs.Common.{◌≡◌, ◌+◌, ◌≤◌, length}
use Rattle.std.specs.HashMap.{hash_map_len, spare}
use Rattle.ax_batch.specs.Rising.{by_rising}
use Rattle.ax_batch.specs.Fates.{set_fates}
use Rattle.ax_batch.proofs.merged.set_all.Given as goal

abbrev pub invariant-loop-update : goal.invariant-loop-update
invariant-loop-update l = record {
  fates : set_fates (by_rising l.fates.entries) l.update-iterator.rest.items ≡ set_fates (by_rising l.fn.fates.entries) l.fn.updates.items;
  room : length l.update-iterator.rest.items ≤ spare l.fates;
  few : hash_map_len l.fates + length l.update-iterator.rest.items ≤ hash_map_len l.fn.fates + length l.fn.updates.items;
}
