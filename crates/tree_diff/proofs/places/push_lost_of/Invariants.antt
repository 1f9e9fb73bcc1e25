use Rattle.std.proofs.Common.{◌≡◌, ◌++◌, take}
use Rattle.std.specs.List.{flat_map}
use Rattle.tree_diff.specs.Lost.{lost}
use Rattle.tree_diff.proofs.places.push_lost_of.Given as goal

abbrev pub invariant-loop-id : goal.invariant-loop-id
invariant-loop-id g l = l.out ≡ l.fn.out ++ flat_map (lost (g.T.TreeView.tree l.before) l.now) (take l.id-index l.ids)
