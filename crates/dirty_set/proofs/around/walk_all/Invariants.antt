use Rattle.dirty_set.proofs.Nearness.{Walked}
use Rattle.dirty_set.proofs.around.walk_all.Given as goal

abbrev pub invariant-loop-root : goal.invariant-loop-root
invariant-loop-root g l = Walked l.dom l.fn.walked l.walked l.roots l.fn.steps l.steps l.root-index
