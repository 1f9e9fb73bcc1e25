use Rattle.std.proofs.Common.{◌≡◌, ◌≤◌, ◌-◌, ◌++◌, length, take, drop}
use Rattle.ax_record.specs.Orders.{before}
use Rattle.ax_record.proofs.backward.front.Given as goal

-- what was passed comes before the id
abbrev pub invariant-loop-end : goal.invariant-loop-end
invariant-loop-end l = (l.end ≤ length l.ids) × (before l.id l.ids ≡ take l.end l.ids ++ before l.id (drop l.end l.ids))

abbrev pub decreases-loop-end : goal.decreases-loop-end
decreases-loop-end l = length l.ids - l.end
