use Rattle.std.proofs.Common.{◌≡◌, ◌≤◌, ◌-◌, length, take}
use Rattle.ax_base.proofs.matching.same_blocks.Given as goal

-- so far the two are the same
abbrev pub invariant-equal : goal.invariant-equal
invariant-equal l = record {
  low : l.at ≤ l.most;
  here : l.most ≤ length l.ids;
  other : l.most ≤ length l.others;
  same : take l.at l.ids ≡ take l.at l.others;
}

abbrev pub decreases-equal : goal.decreases-equal
decreases-equal l = l.most - l.at
