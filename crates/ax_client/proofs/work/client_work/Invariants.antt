use Rattle.std.proofs.Common.{drop}
use Rattle.ax_port.specs.States.{SameClient}
use Rattle.ax_client.specs.Clients.{ClientStands}
use Rattle.ax_client.proofs.work.client_work.Given as goal

abbrev pub invariant-loop-line : goal.invariant-loop-line
invariant-loop-line g l = record {
  own : SameClient l.fn.port l.port;
  stands : ClientStands l.fn.port.story (drop l.line-index l.lines) l.port.client l.side;
}
