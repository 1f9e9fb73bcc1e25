use Rattle.std.proofs.Common.{◌≡◌, ◌++◌, take}
use Rattle.tree_diff.proofs.places.push_all.Given as goal

abbrev pub invariant-loop-id : goal.invariant-loop-id
invariant-loop-id l = l.out ≡ l.fn.out ++ take l.id-index l.ids
