use Rattle.std.proofs.Common.{◌≡◌, ◌==◌, ◌≤◌, ◌-◌, false, length, take}
use Rattle.std.specs.List.{list_any}
use Rattle.ax_base.proofs.seeking.past_blocks.Given as goal

abbrev pub invariant-loop-at : goal.invariant-loop-at
invariant-loop-at l = (l.from ≤ l.at) × (l.at ≤ length l.ids) × (list_any (λ x. x == l.id) (take l.from l.ids) ≡ false → list_any (λ x. x == l.id) (take l.at l.ids) ≡ false)

abbrev pub decreases-loop-at : goal.decreases-loop-at
decreases-loop-at l = length l.ids - l.at
