use Rattle.ax_port.specs.Quiet.{IsAt}
use Rattle.ax_port.proofs.tests.publish_all.Given as goal

-- so many moments are published
abbrev pub invariant-loop-done : goal.invariant-loop-done
invariant-loop-done g l = IsAt l.ports 10000 l.done l.port
