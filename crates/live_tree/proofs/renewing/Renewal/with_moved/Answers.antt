use Rattle.std.proofs.Common.{[], arith}
use Rattle.std.specs.List.{flat_map}
use Rattle.ax_fresh.specs.Gathering.{with_records}
use Rattle.tree_diff.specs.Candidates.{moved_kids}
use Rattle.live_tree.proofs.Remaking.{made_step, made_more}
use Rattle.live_tree.proofs.renewing.Renewal.with_moved.Goals as goal

pub loop-id-preserved : goal.loop-id-preserved
loop-id-preserved c =
    let d = c.args.self.now.dom.now in
    let turned = c.args.turned.now in
    let f = moved_kids c.args.self.now.kept.now d c.args.self.now.nodes.now in
    record {
      records = made_step d c.requires.present.tree f (with_records d c.args.records (flat_map f turned)) c.loop-id.fresh.records c.put_hung.new.fresh.records turned c.loop-id.id-index c.id-item.result (omega arith) c.id-item.is c.loop-id.invariant.records c.in_ok-put_hung.ensures.records;
      moved = made_more f [] c.loop-id.fresh.moved c.put_hung.new.fresh.moved turned c.loop-id.id-index c.id-item.result (omega arith) c.id-item.is c.loop-id.invariant.moved c.in_ok-put_hung.ensures.moved;
    }
