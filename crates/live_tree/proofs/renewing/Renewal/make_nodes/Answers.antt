use Rattle.std.proofs.Common.{[], arith}
use Rattle.std.specs.List.{flat_map}
use Rattle.ax_fresh.specs.Gathering.{with_records}
use Rattle.live_tree.specs.Remaking.{fresh_at, same_at}
use Rattle.live_tree.proofs.Remaking.{made_step, made_more}
use Rattle.live_tree.proofs.Hosting.{hosts_more, parent_kept, node_known}
use Rattle.live_tree.proofs.renewing.Renewal.make_nodes.Goals as goal

pub put_node-requires : goal.put_node-requires
put_node-requires g c =
    let d = c.args.self.now.dom.now in
    let down = c.args.self.now.down.now in
    record {
      present = c.requires.present;
      known = node_known d down c.requires.order.order c.loop-id.id-index c.id-item.result (omega arith) c.id-item.is;
      parent = parent_kept d c.requires.present.tree down c.requires.order.order c.loop-id.id-index c.id-item.result c.loop-id.hosts (omega arith) c.id-item.is c.loop-id.invariant.hosts;
    }

pub loop-id-preserved : goal.loop-id-preserved
loop-id-preserved g c =
    let d = c.args.self.now.dom.now in
    let down = c.args.self.now.down.now in
    let before = c.args.self.now.kept.now in
    let so_far = c.loop-id.invariant.counted in
    let read = c.in_ok-put_node.ensures.counted in
    record {
      records = made_step d c.requires.present.tree (fresh_at before d) (with_records d [] (flat_map (fresh_at before d) down)) c.loop-id.made.records c.put_node.new.made.records down c.loop-id.id-index c.id-item.result (omega arith) c.id-item.is c.loop-id.invariant.records c.in_ok-put_node.ensures.records;
      same = made_more (same_at before d) [] c.loop-id.made.same c.put_node.new.made.same down c.loop-id.id-index c.id-item.result (omega arith) c.id-item.is c.loop-id.invariant.same c.in_ok-put_node.ensures.same;
      hosts = hosts_more d c.requires.present.tree down c.loop-id.id-index c.id-item.result c.loop-id.hosts c.put_node.new.hosts (omega arith) c.id-item.is c.loop-id.invariant.hosts c.in_ok-put_node.ensures.hosts;
      counted = omega arith;
    }
