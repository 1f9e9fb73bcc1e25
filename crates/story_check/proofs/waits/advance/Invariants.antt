use Rattle.std.proofs.Common.{length, ◌-◌}
use Rattle.story_check.specs.Passes.{IsPast}
use Rattle.story_check.proofs.waits.advance.Given as goal

abbrev pub invariant-loop-lines : goal.invariant-loop-lines
invariant-loop-lines l = IsPast l.page (record { lines = l.lines; flushes = l.flushes }) l.taken

abbrev pub decreases-loop-lines : goal.decreases-loop-lines
decreases-loop-lines l = length l.page - l.lines
