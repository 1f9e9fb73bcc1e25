use Rattle.std.proofs.Common.{take}
use Rattle.ax_names.specs.Targets.{AreFirstAmong}
use Rattle.ax_names.proofs.targets.Targets.new.Given as goal

abbrev pub invariant-loop-node : goal.invariant-loop-node
invariant-loop-node g l = AreFirstAmong l.dom (take l.node-index l.node-items) l.targets
