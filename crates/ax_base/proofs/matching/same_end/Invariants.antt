use Rattle.std.proofs.Common.{ℕ, ◌-◌, length, drop, Contains}
use Rattle.ax_base.proofs.matching.same_end.Given as goal

-- what was compared so far is in the other list
abbrev pub invariant-loop-done : goal.invariant-loop-done
invariant-loop-done l = (n : ℕ) → Contains (drop (length l.ids - l.done) l.ids) n → Contains l.others n
