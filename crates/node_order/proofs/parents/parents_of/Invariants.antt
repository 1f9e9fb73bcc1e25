use Rattle.std.proofs.Common.{◌≤◌, ◌+◌, take}
use Rattle.node_order.specs.Parents.{AreParentsOf}
use Rattle.node_order.proofs.parents.parents_of.Given as goal

-- the parents of the nodes before the one at hand, one read for each
abbrev pub invariant-loop-id : goal.invariant-loop-id
invariant-loop-id g l = record {
  value : AreParentsOf l.dom (take l.id-index l.nodes) l.found;
  counted : l.steps ≤ l.fn.steps + l.id-index;
}
