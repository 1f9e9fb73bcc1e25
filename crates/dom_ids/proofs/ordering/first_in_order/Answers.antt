use Rattle.std.proofs.Common.{arith, ap, ◌∙◌}
use Rattle.dom_ids.specs.Ordering.{in_order, first_in}
use Rattle.dom_ids.proofs.Gathering.{few_in_order}
use Rattle.dom_ids.proofs.ordering.first_in_order.Goals as goal

pub returns-then-nodes-le1 : goal.returns-then-nodes-le1
returns-then-nodes-le1 g c = c.first_of.ensures ∙ ap first_in (few_in_order c.args.dom.now c.requires.tree c.args.nodes.now (omega arith) c.requires.known)
