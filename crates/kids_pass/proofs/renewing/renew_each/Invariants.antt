use Rattle.std.proofs.Common.{◌+◌, ◌-◌, ◌*◌, ◌≤◌, length}
use Rattle.node_order.specs.Orders.{AreRightFrom}
use Rattle.kids_pass.specs.Kids.{IsKidsKept}
use Rattle.kids_pass.proofs.renewing.renew_each.Given as goal

abbrev pub invariant-loop-done : goal.invariant-loop-done
invariant-loop-done g l = AreRightFrom l.dom l.nodes (length l.nodes - l.done) (IsKidsKept l.dom l.kids) × (l.steps ≤ l.initial.steps + 2 * l.done)
