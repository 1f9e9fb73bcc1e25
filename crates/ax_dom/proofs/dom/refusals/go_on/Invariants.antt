use Rattle.std.proofs.Common.{◌≡◌, drop}
use Rattle.ax_base.specs.Runs.{go_on}
use Rattle.ax_dom.proofs.dom.refusals.go_on.Given as goal

-- the runs so far are right, and the others have to go on from the last of them
abbrev pub invariant-loop-run : goal.invariant-loop-run
invariant-loop-run l = go_on l.end l.from l.line (drop l.run-index l.runs) ≡ go_on l.end 0 0 l.runs
