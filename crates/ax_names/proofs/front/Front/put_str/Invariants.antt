use Rattle.ax_names.proofs.Putting.{IsPutSoFar}
use Rattle.ax_names.proofs.front.Front.put_str.Given as goal

-- the characters so far are put in
abbrev pub invariant-loop-c : goal.invariant-loop-c
invariant-loop-c l = IsPutSoFar l.initial.self l.text l.self l.yielded
