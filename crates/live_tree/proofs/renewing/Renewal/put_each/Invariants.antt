use Rattle.std.proofs.Common.{◌≡◌, ◌++◌, take, drop}
use Rattle.ax_fresh.specs.Gathering.{with_records}
use Rattle.live_tree.proofs.renewing.Renewal.put_each.Given as goal

-- the records so far, with those of the objects that are left, are the whole
abbrev pub invariant-loop-kid : goal.invariant-loop-kid
invariant-loop-kid l = record {
  records : with_records l.self.dom.now l.fresh.records (drop l.kid-index l.hung) ≡ with_records l.self.dom.now l.fn.fresh.records l.hung;
  moved : l.fresh.moved ≡ l.fn.fresh.moved ++ take l.kid-index l.hung;
}
