use Rattle.std.proofs.Common.{◌+◌, ◌*◌, ◌≤◌, length}
use Rattle.said_pass.specs.Saids.{IsNameKept}
use Rattle.said_pass.proofs.Backward.{AreRightBehind}
use Rattle.said_pass.proofs.names.NodeNames.renew.Given as goal

abbrev pub invariant-loop-id : goal.invariant-loop-id
invariant-loop-id g l = AreRightBehind l.sources l.nodes (length l.yielded) (IsNameKept l.sources l.self) × (l.steps ≤ l.initial.steps + 2 * length l.yielded)
