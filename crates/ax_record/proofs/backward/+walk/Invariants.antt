use Rattle.std.proofs.Common.{◌≡◌, ◌+◌, ◌*◌, reverse, length, ◌≤◌}
use Rattle.std.specs.Prelude.{find}
use Rattle.std.specs.List.{flat_map}
use Rattle.ax_record.specs.Orders.{wanted_at, back_within}
use Rattle.ax_record.proofs.backward.+walk.Given as goal

abbrev pub decreases-last_among : goal.decreases-last_among
decreases-last_among g l = 3 * l.levels + 2

abbrev pub decreases-last_within : goal.decreases-last_within
decreases-last_within g l = 3 * l.levels + 1

abbrev pub decreases-last_below : goal.decreases-last_below
decreases-last_below g l = 3 * l.levels

-- the last wanted one is that of the ids that are left
abbrev pub invariant-last_among-loop-left : goal.invariant-last_among-loop-left
invariant-last_among-loop-left g l =
    (find (wanted_at (g.T.TreeView.tree l.tree) (g.W.Wanted.wants l.wanted)) (flat_map (back_within (g.T.TreeView.tree l.tree) l.levels) (reverse l.ids))
    ≡ find (wanted_at (g.T.TreeView.tree l.tree) (g.W.Wanted.wants l.wanted)) (flat_map (back_within (g.T.TreeView.tree l.tree) l.levels) (reverse l.left)))
    × (length l.left ≤ length l.ids)

abbrev pub decreases-last_among-loop-left : goal.decreases-last_among-loop-left
decreases-last_among-loop-left g l = length l.left
