use Rattle.std.proofs.Common.{◌≡◌, false}
use Rattle.ax_port.proofs.tests.take_all.Given as goal

-- the port is of this lock, and goes on
abbrev pub invariant-loop : goal.invariant-loop
invariant-loop g l = (l.port.table ≡ l.ports.table) × (l.port.client.over ≡ false)
