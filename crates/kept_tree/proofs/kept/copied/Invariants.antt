use Rattle.std.proofs.Common.{◌≡◌, []}
use Rattle.kept_tree.specs.Renewing.{renewed}
use Rattle.kept_tree.proofs.kept.copied.Given as goal

-- the records so far, renewed at the ids that are left, are the whole
abbrev pub invariant-loop-id : goal.invariant-loop-id
invariant-loop-id g l = renewed l.records (g.T.TreeView.tree l.tree).entries l.id-iterator.rest.items ≡ renewed [] (g.T.TreeView.tree l.tree).entries l.fn.ids
