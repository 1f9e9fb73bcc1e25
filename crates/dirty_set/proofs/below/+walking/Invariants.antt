use Rattle.std.proofs.Common.{◌-◌}
use Rattle.ax_base.specs.Document.{depth}
use Rattle.dirty_set.proofs.Walking.{WalkSoFar}
use Rattle.dirty_set.proofs.below.+walking.Given as goal

abbrev pub decreases-walk_below : goal.decreases-walk_below
decreases-walk_below g l = 65 - depth l.dom.now l.id

abbrev pub invariant-loop-child : goal.invariant-loop-child
invariant-loop-child g l = WalkSoFar l.dom l.fn.walked l.walked l.fn.id l.fn.steps l.steps l.child-index l.child-items
