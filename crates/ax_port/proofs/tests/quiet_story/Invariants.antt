use Rattle.std.proofs.Common.{◌≡◌}
use Rattle.ax_port.specs.Quiet.{flush_lines}
use Rattle.ax_port.proofs.tests.quiet_story.Given as goal

-- so many lines are there
abbrev pub invariant-loop-done : goal.invariant-loop-done
invariant-loop-done l = l.page.items ≡ flush_lines l.done
