use Rattle.std.proofs.Common.{arith}
use Rattle.node_order.proofs.Passing.{before_all}
use Rattle.ctx_pass.specs.Contexts.{IsContextKept}
use Rattle.ctx_pass.proofs.renewing.renew_each.Goals as goal

pub returns-clause-value : goal.returns-clause-value
returns-clause-value g c = before_all c.args.dom.now c.args.nodes.now (IsContextKept c.args.dom.now c.loop-id.contexts) c.loop-id.id-index (omega arith) c.loop-id.invariant.0
