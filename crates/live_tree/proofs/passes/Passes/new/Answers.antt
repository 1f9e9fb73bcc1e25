use Rattle.std.proofs.Common.{subst, sym}
use Rattle.node_order.specs.Orders.{IsFromAbove}
use Rattle.live_tree.proofs.Everywhere.{nothing_else}
use Rattle.live_tree.proofs.passes.Passes.new.Goals as goal

pub renew-requires : goal.renew-requires
renew-requires g c = record {
  ids = c.requires.ids;
  order = subst (IsFromAbove c.args.dom.now) (sym c.as_slice.ensures) c.in_ok-all.ensures.order;
  others = nothing_else c.args.dom.now _ c.in_ok-all.all c.as_slice.result.now c.as_slice.ensures c.in_ok-all.ensures.all;
}
