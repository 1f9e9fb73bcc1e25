use Rattle.std.proofs.Common.{◌≡◌, ◌++◌}
use Rattle.dirty_set.proofs.climb.NodeIds.to_ids.Given as goal

abbrev pub invariant-loop-number : goal.invariant-loop-number
invariant-loop-number l = l.ids ++ l.number-iterator ≡ l.self
