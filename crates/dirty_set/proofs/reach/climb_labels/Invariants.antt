use Rattle.dirty_set.proofs.Reachings.{LabelsSoFar}
use Rattle.dirty_set.proofs.reach.climb_labels.Given as goal

abbrev pub invariant-loop-member : goal.invariant-loop-member
invariant-loop-member g l = LabelsSoFar l.dom l.fn.set l.set l.fn.steps l.steps l.member-index l.members
