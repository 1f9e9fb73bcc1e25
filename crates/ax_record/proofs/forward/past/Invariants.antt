use Rattle.std.proofs.Common.{◌≡◌, length}
use Rattle.ax_record.specs.Orders.{after}
use Rattle.ax_record.proofs.forward.past.Given as goal

-- what comes after the id is what comes after it in what is left
abbrev pub invariant-loop-left : goal.invariant-loop-left
invariant-loop-left l = after l.id l.ids ≡ after l.id l.left

abbrev pub decreases-loop-left : goal.decreases-loop-left
decreases-loop-left l = length l.left
