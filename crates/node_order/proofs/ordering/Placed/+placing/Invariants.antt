use Rattle.ax_base.specs.Document.{depth}
use Rattle.node_order.proofs.ordering.Placed.+placing.Given as goal

abbrev pub decreases-with_ancestors : goal.decreases-with_ancestors
decreases-with_ancestors l = depth l.parents.now.document l.id
