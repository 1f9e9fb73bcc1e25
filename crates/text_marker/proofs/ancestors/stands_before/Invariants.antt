use Rattle.std.proofs.Common.{◌≡◌, length, nat_lt}
use Rattle.ax_record.specs.Orders.{before}
use Rattle.text_marker.proofs.ancestors.stands_before.Given as goal

-- what was passed is neither of the two
abbrev pub invariant-loop-left : goal.invariant-loop-left
invariant-loop-left l = nat_lt (length (before l.one l.ids)) (length (before l.other l.ids)) ≡ nat_lt (length (before l.one l.left)) (length (before l.other l.left))

abbrev pub decreases-loop-left : goal.decreases-loop-left
decreases-loop-left l = length l.left
