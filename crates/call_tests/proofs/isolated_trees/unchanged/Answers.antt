use Rattle.std.proofs.Common.{sym, subst}
use Rattle.change_log.specs.declared.log.LogEntries.{LogEntries}
use Rattle.change_log.specs.Logs.{MayPatch}
use Rattle.call_tests.proofs.isolated_trees.unchanged.Goals as goal

pub patch-requires : goal.patch-requires
patch-requires c = subst (λ (l : LogEntries). MayPatch c.args.tree l) (sym c.empty.ensures) c.find-root.ensures.is_tree
