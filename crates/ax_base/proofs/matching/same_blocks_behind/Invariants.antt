use Rattle.std.proofs.Common.{◌≤◌, ◌-◌, ℕ, length, drop, Contains}
use Rattle.ax_base.proofs.matching.same_blocks_behind.Given as goal

-- what was compared so far is in the other list
abbrev pub invariant-equal : goal.invariant-equal
invariant-equal l = record {
  low : l.done ≤ l.most;
  shared : (n : ℕ) → Contains (drop (length l.ids - l.done) l.ids) n → Contains l.others n;
}

abbrev pub decreases-equal : goal.decreases-equal
decreases-equal l = l.most - l.done
