use Rattle.std.proofs.Common.{length, ap, arith}
use Rattle.node_order.specs.Parents.{SomeNodes}
use Rattle.node_order.proofs.Placing.{few_placed}
use Rattle.node_order.proofs.ordering.from_above.Goals as goal

pub returns-clause-few : goal.returns-clause-few
returns-clause-few g c =
    let few = few_placed c.in_ok-parents.parents.document c.in_ok-parents.parents.nodes c.in_ok-placed.placed c.in_ok-placed.ensures.placed in
    let all = ap (λ (s : SomeNodes). length s.nodes) c.in_ok-parents.ensures.value in
    let ids = ap length c.placed.view_is in
    omega arith
