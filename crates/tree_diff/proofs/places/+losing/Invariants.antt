use Rattle.std.proofs.Common.{◌≡◌, ◌+◌, ◌*◌, ◌++◌, take}
use Rattle.std.specs.List.{flat_map}
use Rattle.tree_diff.specs.Lost.{given_within}
use Rattle.tree_diff.proofs.places.+losing.Given as goal

abbrev pub decreases-push_lost : goal.decreases-push_lost
decreases-push_lost g l = 3 * l.levels

abbrev pub decreases-push_given_of : goal.decreases-push_given_of
decreases-push_given_of g l = 3 * l.levels + 2

abbrev pub decreases-push_given : goal.decreases-push_given
decreases-push_given g l = 3 * l.levels + 1

-- what the kids so far give is out
abbrev pub invariant-push_given_of-loop-kid : goal.invariant-push_given_of-loop-kid
invariant-push_given_of-loop-kid g l = l.out ≡ l.fn.out ++ flat_map (given_within (g.T.TreeView.tree l.before) l.now l.levels) (take l.kid-index l.kids)
