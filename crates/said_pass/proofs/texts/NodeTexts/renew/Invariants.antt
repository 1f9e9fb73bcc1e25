use Rattle.std.proofs.Common.{◌+◌, ◌*◌, ◌≤◌, length}
use Rattle.said_pass.specs.Saids.{IsTextKept}
use Rattle.said_pass.proofs.Backward.{AreRightBehind}
use Rattle.said_pass.proofs.texts.NodeTexts.renew.Given as goal

abbrev pub invariant-loop-id : goal.invariant-loop-id
invariant-loop-id g l = AreRightBehind l.dom l.nodes (length l.yielded) (IsTextKept l.dom l.self) × (l.steps ≤ l.initial.steps + 2 * length l.yielded)
