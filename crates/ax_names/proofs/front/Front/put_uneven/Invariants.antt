use Rattle.ax_names.proofs.Putting.{IsFlatSoFar}
use Rattle.ax_names.proofs.front.Front.put_uneven.Given as goal

-- the characters so far are put in, flattened
abbrev pub invariant-loop-c : goal.invariant-loop-c
invariant-loop-c l = IsFlatSoFar l.initial.self l.initial.apart l.text l.self l.apart l.yielded
