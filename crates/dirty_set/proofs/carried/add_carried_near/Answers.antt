use Rattle.std.proofs.Common.{◌∙◌, arith}
use Rattle.dirty_set.specs.Reach.{nodes_near}
use Rattle.dirty_set.proofs.Noting.{carried_more, carried_all}
use Rattle.dirty_set.proofs.carried.add_carried_near.Goals as goal

pub loop-id-preserved : goal.loop-id-preserved
loop-id-preserved g c =
    carried_more c.args.dom.now c.args.texts.now.items c.loop-id.texts.items c.add_carried_by.new.texts.items c.as_slice-id-items.result.now c.loop-id.id-index c.id-item.result
    (omega arith) c.id-item.is c.loop-id.invariant c.in_ok-add_carried_by.ensures

pub returns : goal.returns
returns g c =
    carried_all c.args.dom.now c.args.texts.now.items c.loop-id.texts.items c.as_slice-id-items.result.now (nodes_near c.args.nodes.now c.args.roots.now c.args.dom.now) c.loop-id.id-index
    (omega arith) (c.as_slice-id-items.ensures ∙ c.in_ok-ids.ensures ∙ c.in_ok-set.ensures.value) c.loop-id.invariant
