use Rattle.dirty_set.proofs.Reachings.{TiedSoFar}
use Rattle.dirty_set.proofs.reach.climb_tied.Given as goal

abbrev pub invariant-loop-text : goal.invariant-loop-text
invariant-loop-text g l = TiedSoFar l.dom l.fn.set l.set l.fn.steps l.steps l.text-index l.texts
