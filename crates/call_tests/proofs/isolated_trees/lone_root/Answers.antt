use Rattle.isolated_map.proofs.LoneRoot.{lone_entries}
use Rattle.call_tests.proofs.isolated_trees.lone_root.Goals as goal

pub new-tree-requires : goal.new-tree-requires
new-tree-requires c =
    lone_entries c.new-records.result c.put.new.self c.root.result c.root.ensures.own c.root.ensures.top c.root.ensures.bare c.root.ensures.fits c.root.ensures.bounds
    c.new-records.ensures c.in_ok-put.ensures.ok
