use Rattle.std.proofs.Common.{◌∙◌}
use Rattle.kept_tree.proofs.Overlaying.{left_at_first, left_then}
use Rattle.kept_tree.proofs.kept.settled.Goals as goal

pub loop-id-init : goal.loop-id-init
loop-id-init c = left_at_first c.args.records c.args.fresh c.args.ids c.into_iter-id-iterator.result.rest.items c.requires.rising (c.into_iter-id-iterator.ensures.into_iter_gives.0 ∙ c.into_vec-id-items.ensures)

pub loop-id-preserved : goal.loop-id-preserved
loop-id-preserved c =
    left_then _ c.loop-id.records c.loop-id.fresh c.settle_one.new.records c.take_out-object.new.self c.in-Some.id c.loop-id.id-iterator.rest.items c.next.new.self.rest.items c.take_out-object.result
    c.in-Some.ensures.steps.0 c.take_out-object.ensures.value c.take_out-object.ensures.others c.in_ok-settle_one.ensures c.loop-id.invariant
