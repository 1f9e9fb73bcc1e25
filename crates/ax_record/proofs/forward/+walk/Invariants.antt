use Rattle.std.proofs.Common.{◌≡◌, ◌+◌, ◌*◌, take}
use Rattle.std.specs.Prelude.{find, None}
use Rattle.std.specs.List.{flat_map}
use Rattle.ax_record.specs.Tree.{objects_within}
use Rattle.ax_record.specs.Orders.{wanted_at}
use Rattle.ax_record.proofs.forward.+walk.Given as goal

abbrev pub decreases-first_among : goal.decreases-first_among
decreases-first_among g l = 2 * l.levels + 1

abbrev pub decreases-first_within : goal.decreases-first_within
decreases-first_within g l = 2 * l.levels

-- none of the ids so far, or below them, is wanted
abbrev pub invariant-first_among-loop-id : goal.invariant-first_among-loop-id
invariant-first_among-loop-id g l =
    find (wanted_at (g.T.TreeView.tree l.tree) (g.W.Wanted.wants l.wanted)) (flat_map (objects_within (g.T.TreeView.tree l.tree) l.levels) (take l.id-index l.ids)) ≡ None
