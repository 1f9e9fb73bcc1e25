use Rattle.std.proofs.Common.{◌≡◌, take, drop}
use Rattle.std.specs.List.{flat_map}
use Rattle.ax_fresh.specs.Gathering.{with_records}
use Rattle.tree_diff.specs.Candidates.{moved_kids}
use Rattle.live_tree.proofs.renewing.Renewal.with_moved.Given as goal

-- the records so far, with those of what hangs on the nodes that are left, are the whole
abbrev pub invariant-loop-id : goal.invariant-loop-id
invariant-loop-id l = record {
  records : with_records l.self.dom.now l.fresh.records (flat_map (moved_kids l.self.kept.now l.self.dom.now l.self.nodes.now) (drop l.id-index l.turned)) ≡ with_records l.self.dom.now l.fn.records (flat_map (moved_kids l.self.kept.now l.self.dom.now l.self.nodes.now) l.turned);
  moved : l.fresh.moved ≡ flat_map (moved_kids l.self.kept.now l.self.dom.now l.self.nodes.now) (take l.id-index l.turned);
}
