use Rattle.std.proofs.Common.{◌≡◌, ◌≤◌, ◌+◌, [], take, drop}
use Rattle.std.specs.List.{flat_map}
use Rattle.ax_fresh.specs.Gathering.{with_records}
use Rattle.live_tree.specs.Hosts.{AreHostsOf}
use Rattle.live_tree.specs.Remaking.{fresh_at, staying}
use Rattle.live_tree.proofs.renewing.Renewal.make_nodes.Given as goal

-- the records so far, with those of the objects that are left, are the whole, and what is kept is that of the nodes so far
abbrev pub invariant-loop-id : goal.invariant-loop-id
invariant-loop-id g l = record {
  records : with_records l.self.dom.now l.made.records (flat_map (fresh_at l.self.kept.now l.self.dom.now) (drop l.id-index l.down)) ≡ with_records l.self.dom.now [] (flat_map (fresh_at l.self.kept.now l.self.dom.now) l.down);
  same : l.made.same ≡ staying l.self.kept.now l.self.dom.now (take l.id-index l.down);
  hosts : AreHostsOf l.self.dom.now (take l.id-index l.down) l.hosts;
  counted : l.steps ≤ l.fn.steps + l.id-index;
}
