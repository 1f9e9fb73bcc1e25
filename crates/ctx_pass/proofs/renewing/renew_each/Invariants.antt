use Rattle.std.proofs.Common.{◌+◌, ◌≤◌}
use Rattle.node_order.specs.Orders.{AreRightBefore}
use Rattle.ctx_pass.specs.Contexts.{IsContextKept}
use Rattle.ctx_pass.proofs.renewing.renew_each.Given as goal

abbrev pub invariant-loop-id : goal.invariant-loop-id
invariant-loop-id g l = AreRightBefore l.dom l.nodes l.id-index (IsContextKept l.dom l.contexts) × (l.steps ≤ l.initial.steps + l.id-index)
