use Rattle.std.proofs.Common.{◌≡◌, ◌==◌, ◌≤◌, false, take}
use Rattle.std.specs.List.{list_any}
use Rattle.ax_base.proofs.seeking.first_place.Given as goal

-- it stands at none of the places so far
abbrev pub invariant-loop-at : goal.invariant-loop-at
invariant-loop-at l = (l.from ≤ l.at) × (list_any (λ x. x == l.id-inside.0) (take l.from l.ids) ≡ false → list_any (λ x. x == l.id-inside.0) (take l.at l.ids) ≡ false)
