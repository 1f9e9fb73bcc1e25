use Rattle.kept_tree.specs.Renewing.{renewed}
use Rattle.kept_tree.proofs.Overlaying.{IsLeft}
use Rattle.kept_tree.proofs.kept.settled.Given as goal

abbrev pub invariant-loop-id : goal.invariant-loop-id
invariant-loop-id l = IsLeft (renewed l.fn.records l.fn.fresh l.fn.ids) l.records l.fresh l.id-iterator.rest.items
