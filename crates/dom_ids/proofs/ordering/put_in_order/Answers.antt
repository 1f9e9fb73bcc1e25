use Rattle.std.proofs.Common.{arith, ap, length}
use Rattle.dom_ids.specs.Ordering.{in_order}
use Rattle.dom_ids.proofs.Gathering.{few_in_order}
use Rattle.dom_ids.proofs.ordering.put_in_order.Goals as goal

pub returns-then-as_slice-le1 : goal.returns-then-as_slice-le1
returns-then-as_slice-le1 g c = few_in_order c.args.dom.now c.requires.tree c.args.ids.now (omega (arith, ap length c.as_slice.ensures)) c.requires.known
