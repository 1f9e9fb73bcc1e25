use Rattle.std.proofs.Common.{◌≡◌, ◌++◌, take, filter}
use Rattle.tree_diff.specs.Candidates.{is_moved}
use Rattle.tree_diff.proofs.moved.push_moved.Given as goal

abbrev pub invariant-loop-id : goal.invariant-loop-id
invariant-loop-id g l = l.out ≡ l.fn.out ++ filter (is_moved (g.T.TreeView.tree l.before) l.nodes l.above) (take l.id-index l.ids)
