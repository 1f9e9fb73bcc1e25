use Rattle.std.proofs.Common.{◌≡◌, ◌+◌, ◌≤◌, ◌++◌, take}
use Rattle.std.specs.Map.{keys_of}
use Rattle.std.specs.HashMap.{hash_map_len}
use Rattle.ax_batch.proofs.merged.list_keys.Given as goal

abbrev pub invariant-loop-index : goal.invariant-loop-index
invariant-loop-index l = record {
  keys : l.ids.0 ≡ l.fn.ids.0 ++ keys_of (take l.index l.fates.entries);
  room : hash_map_len l.fates ≤ l.ids.1 + l.index;
}
