use Rattle.dirty_set.proofs.Nearness.{Climbed}
use Rattle.dirty_set.proofs.around.climb_all.Given as goal

abbrev pub invariant-loop-id : goal.invariant-loop-id
invariant-loop-id g l = Climbed l.dom l.fn.set l.set l.some l.fn.steps l.steps l.id-index
