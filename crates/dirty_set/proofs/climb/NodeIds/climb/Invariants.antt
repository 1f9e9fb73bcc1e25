use Rattle.ax_base.specs.Document.{depth}
use Rattle.dirty_set.proofs.Climbing.{Climbing}
use Rattle.dirty_set.proofs.climb.NodeIds.climb.Given as goal

abbrev pub decreases-up : goal.decreases-up
decreases-up g l = depth l.dom l.at

abbrev pub invariant-up : goal.invariant-up
invariant-up g l = Climbing l.dom l.fn.self l.self l.fn.id l.at l.fn.steps l.steps
