use Rattle.std.proofs.Common.{◌≡◌, ◌-◌, ◌≤◌, vec_len}
use Rattle.std.specs.Io.KnownBytes.{Consumes}
use Rattle.ax_edge.proofs.transfers.fill.Given as goal

-- what was read is what was taken, and the count is as it was
abbrev pub invariant-reading : goal.invariant-reading
invariant-reading g l = record {
  within : vec_len l.input ≤ l.most;
  taken : Consumes (g.I.Source.left l.fn.source) (g.I.Source.left l.source) l.input.items;
  kept : g.I.Source.faults l.source ≡ g.I.Source.faults l.fn.source;
}

abbrev pub decreases-reading : goal.decreases-reading
decreases-reading g l = l.most - vec_len l.input
