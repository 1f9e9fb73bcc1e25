use Rattle.std.proofs.Common.{◌≡◌, ◌==◌, ◌≤◌, ◌-◌, false, length, take, filter, not}
use Rattle.std.specs.List.{list_any}
use Rattle.ax_base.proofs.lists.Sequence+ObjId.take_out.Given as goal

-- the ids before `from` are others, and those that are left without it are those of the start without it
abbrev pub invariant-loop-from : goal.invariant-loop-from
invariant-loop-from l =
    (l.from ≤ length l.self-inside.items.items)
    × (list_any (λ x. x == l.id) (take l.from l.self-inside.items.items) ≡ false)
    × (filter (λ x. not (x == l.id)) l.self-inside.items.items ≡ filter (λ x. not (x == l.id)) l.fn.self)

abbrev pub decreases-loop-from : goal.decreases-loop-from
decreases-loop-from l = length l.self-inside.items.items - l.from
